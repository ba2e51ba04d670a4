-- What code over any air may rest on: laws over six lanes, an air's meaning.
use Rattle.std.specs.Prelude.{◌≡◌, ℕ, ◌<◌, ◌≤◌, [], ◌∷◌, ◌++◌, length, None, Ok, Err, ◌≢◌}
use Rattle.sites.specs.declared.refusal.Refusal.TheVariants.{NoSite, LaneFull}
use Rattle.airs.specs.Lanes.{Lanes, lane, count_of, word_at, silent, put_reply, put_next}

-- a put is accepted: the site is below 6, and its lane is shorter than the size
abbrev pub Accepts : ℕ → Lanes → ℕ → Type 0
Accepts size ls s = (s < 6) × (count_of ls s < size)

-- what a put of the word w by site s does to its own lane and to the others
pub record Put (size : ℕ) (ls : Lanes) (s w : ℕ) : Type 0 where
  pub own : Accepts size ls s → lane (put_next size ls s w) s ≡ lane ls s ++ w ∷ []
  pub length_answered : Accepts size ls s → put_reply size ls s ≡ Ok (count_of (put_next size ls s w) s)
  pub others : (q : ℕ) → (q ≢ s) → lane (put_next size ls s w) q ≡ lane ls q
  pub no_site : 6 ≤ s → (put_reply size ls s ≡ Err NoSite) × (put_next size ls s w ≡ ls)
  pub full : s < 6 → size ≤ count_of ls s → (put_reply size ls s ≡ Err LaneFull) × (put_next size ls s w ≡ ls)
  pub still_six : length (put_next size ls s w) ≡ 6

abbrev pub PutLaw : Type 0
PutLaw = (size : ℕ) (ls : Lanes) (s w : ℕ) → length ls ≡ 6 → Put size ls s w

-- the size shows only in a full lane: where neither is reached, two airs with the same lanes answer alike and stay alike
abbrev pub AlikeLaw : Type 0
AlikeLaw = (a b : ℕ) (ls : Lanes) (s w : ℕ) → count_of ls s < a → count_of ls s < b → (put_reply a ls s ≡ put_reply b ls s) × (put_next a ls s w ≡ put_next b ls s w)

-- after a clearing no lane has a word
abbrev pub ClearLaw : Type 0
ClearLaw = (s k : ℕ) → (count_of silent s ≡ 0) × (word_at silent s k ≡ None)

-- a site of 6 or more has no words
abbrev pub PastLaw : Type 0
PastLaw = (ls : Lanes) (s k : ℕ) → length ls ≡ 6 → 6 ≤ s → (count_of ls s ≡ 0) × (word_at ls s k ≡ None)
