-- Putting several words at once.
use Rattle.std.specs.Prelude.{◌≡◌, ℕ, ◌+◌, ◌-◌, ◌<◌, Bool, cond, List, [], ◌∷◌, length, Ok, Err, Result, ◌==◌, nat_le, nat_lt, slice_index}
use Rattle.sites.specs.declared.refusal.Refusal.{Refusal}
use Rattle.sites.specs.declared.refusal.Refusal.TheVariants.{NoSite, LaneFull}
use Rattle.airs.specs.Lanes.{Lanes, count_of, added, kept}
use Rattle.notebooks.specs.Floods.{flood_word}

-- what putting some words answers: 21 for a site of 6 or more, 25 where the lane has no room for all of them, else how many they are
abbrev pub put_all_reply : ℕ → Lanes → ℕ → List ℕ → Result ℕ Refusal
put_all_reply size ls s ws = cond (nat_le 6 s) (Err NoSite) (cond (nat_lt (size - count_of ls s) (length ws)) (Err LaneFull) (Ok (length ws)))

-- what it leaves: all of them at the end of the site's lane, if it is accepted; else the lanes as they were
abbrev pub put_all_next : ℕ → Lanes → ℕ → List ℕ → Lanes
put_all_next size ls s ws = kept (put_all_reply size ls s ws) (added ls s ws) ls

-- a closure gives just these words at the places from start on
abbrev pub Gives : (ℕ → ℕ → Type 0) → ℕ → List ℕ → Type 0
Gives post start ws = (k w : ℕ) → k < length ws → post (start + k) w → w ≡ slice_index ws k

-- what a site owes in round r, counted from 1: in round 1 the empty path with the bit that it holds, later some words
abbrev pub owed_of : ℕ → Bool → List ℕ → List ℕ
owed_of r held ws = cond (r == 1) (flood_word (record { path = []; bit = held }) ∷ []) ws
