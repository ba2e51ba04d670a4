-- What put answers and leaves, by cases, and the laws over six lanes.
use Rattle.std.proofs.Common.{◌≡◌, ℕ, zero, suc, ◌+◌, ◌-◌, ◌<◌, ◌≤◌, List, [], ◌∷◌, ◌++◌, length, get_or, take, set, None, Ok, Err, Result, sym, refl, ap, ◌∙◌, ⊎_elim, arith}
use Rattle.std.proofs.lemmas.List.{append-nil, append_assoc, get_or_past, get_or-set_same, get_or-set_other, length-append, length_push, length-set, length-take-le, set-get_or, set-set, take_more}
use Rattle.std.proofs.lemmas.Bool.{le-leb, lt-leb, cases_lt}
use Rattle.sites.specs.declared.refusal.Refusal.{Refusal}
use Rattle.sites.specs.declared.refusal.Refusal.TheVariants.{NoSite, LaneFull}
use Rattle.airs.specs.Lanes.{Lanes, lane, count_of, word_at, silent, added, kept, put_reply, put_next}
use Rattle.airs.specs.Laws.{Accepts, PutLaw, AlikeLaw, ClearLaw, PastLaw}

module _ (size : ℕ) (ls : Lanes) (s : ℕ) where
  pub no_site : 6 ≤ s → put_reply size ls s ≡ Err NoSite
  no_site h = rw (le-leb 6 s h)

  pub full : s < 6 → size ≤ count_of ls s → put_reply size ls s ≡ Err LaneFull
  full h k = rw (lt-leb 6 s h, le-leb size (count_of ls s) k)

  pub accepted : s < 6 → count_of ls s < size → put_reply size ls s ≡ Ok (count_of ls s + 1)
  accepted h k = rw (lt-leb 6 s h, lt-leb size (count_of ls s) k)

  pub accepts : (k : ℕ) → put_reply size ls s ≡ Ok k → Accepts size ls s
  accepts k e =
      ⊎_elim
      (λ (h : s < 6). ⊎_elim (λ (l : count_of ls s < size). (h, l)) (λ (l : size ≤ count_of ls s). let no = full h l in absurd cc) (cases_lt (count_of ls s) size))
      (λ (h : 6 ≤ s). let no = no_site h in absurd cc)
      (cases_lt s 6)

  pub put_kept : (w : ℕ) (e : Refusal) → put_reply size ls s ≡ Err e → put_next size ls s w ≡ ls
  put_kept w e q = ap (λ (r : Result ℕ Refusal). kept r (added ls s (w ∷ [])) ls) q

  pub put_added : (w k : ℕ) → put_reply size ls s ≡ Ok k → put_next size ls s w ≡ added ls s (w ∷ [])
  put_added w k q = ap (λ (r : Result ℕ Refusal). kept r (added ls s (w ∷ [])) ls) q

-- a lane with a word is that of a site below 6
pub site_below : (ls : Lanes) (s k : ℕ) → length ls ≡ 6 → k < count_of ls s → s < 6
site_below ls s k six h =
    ⊎_elim
    (λ l. l)
    (λ l. let past : length ls ≤ s = omega arith in absurd (omega (arith, ap length (get_or_past ls s [] past))))
    (cases_lt s 6)

-- words appended to one lane
pub added_own : (ls : Lanes) (s : ℕ) (ws : List ℕ) → s < length ls → lane (added ls s ws) s ≡ lane ls s ++ ws
added_own ls s ws h = get_or-set_same ls s (lane ls s ++ ws) [] h

pub added_other : (ls : Lanes) (s q : ℕ) (ws : List ℕ) → (q ≡ s → ⊥) → lane (added ls s ws) q ≡ lane ls q
added_other ls s q ws ne = get_or-set_other ls s q (lane ls s ++ ws) [] ne

pub added_none : (ls : Lanes) (s : ℕ) → added ls s [] ≡ ls
added_none ls s = ap (set ls s) (append-nil (lane ls s)) ∙ set-get_or ls s []

pub added_added : (ls : Lanes) (s : ℕ) (vs ws : List ℕ) → s < length ls → added (added ls s vs) s ws ≡ added ls s (vs ++ ws)
added_added ls s vs ws h =
    ap (λ l. set (added ls s vs) s (l ++ ws)) (added_own ls s vs h)
    ∙ set-set ls s (lane ls s ++ vs) ((lane ls s ++ vs) ++ ws)
    ∙ ap (set ls s) (append_assoc (lane ls s) vs ws)

-- words put one by one, where the lane has room for all of them
pub put_more : (size : ℕ) (ls : Lanes) (s k : ℕ) (ws : List ℕ) → length ls ≡ 6 → s < 6 → length ws ≤ size - count_of ls s → k < length ws → put_next size (added ls s (take k ws)) s (get_or ws k 0) ≡ added ls s (take (k + 1) ws)
put_more size ls s k ws six below fits h =
    let l : s < length ls = omega arith in
    let n : k ≤ length ws = omega arith in
    let now = added ls s (take k ws) in
    let e : count_of now s ≡ count_of ls s + k = ap length (added_own ls s (take k ws) l) ∙ length-append (lane ls s) (take k ws) ∙ ap (λ x. count_of ls s + x) (length-take-le k ws n) in
    let room : count_of now s < size = omega arith in
    put_added size now s (get_or ws k 0) (count_of now s + 1) (accepted size now s below room)
    ∙ added_added ls s (take k ws) (get_or ws k 0 ∷ []) l
    ∙ ap (added ls s) (sym (take_more ws k 0 h))

kept_either : (r : Result ℕ Refusal) (P : Lanes → Type 0) (changed st : Lanes) → P changed → P st → P (kept r changed st)
kept_either (Ok k) P changed st x y = x
kept_either (Err e) P changed st x y = y

put_own : (size : ℕ) (ls : Lanes) (s w : ℕ) → length ls ≡ 6 → Accepts size ls s → lane (put_next size ls s w) s ≡ lane ls s ++ w ∷ []
put_own size ls s w six a =
    let l : s < length ls = omega (arith, a.0) in
    ap (λ x. lane x s) (put_added size ls s w (count_of ls s + 1) (accepted size ls s a.0 a.1)) ∙ added_own ls s (w ∷ []) l

pub put_law : PutLaw
put_law size ls s w six = record {
  own = put_own size ls s w six;
  length_answered = λ a. accepted size ls s a.0 a.1 ∙ ap Ok (sym (ap length (put_own size ls s w six a) ∙ length_push (lane ls s) w));
  others = λ q ne. kept_either (put_reply size ls s) (λ x. lane x q ≡ lane ls q) (added ls s (w ∷ [])) ls (added_other ls s q (w ∷ []) ne) refl;
  no_site = λ h. (no_site size ls s h, put_kept size ls s w NoSite (no_site size ls s h));
  full = λ h k. (full size ls s h k, put_kept size ls s w LaneFull (full size ls s h k));
  still_six = kept_either (put_reply size ls s) (λ x. length x ≡ 6) (added ls s (w ∷ [])) ls (length-set ls s (lane ls s ++ w ∷ []) ∙ six) six;
}

same_reply : (a b : ℕ) (ls : Lanes) (s : ℕ) → count_of ls s < a → count_of ls s < b → put_reply a ls s ≡ put_reply b ls s
same_reply a b ls s h k =
    ⊎_elim
    (λ l. accepted a ls s l h ∙ sym (accepted b ls s l k))
    (λ l. no_site a ls s l ∙ sym (no_site b ls s l))
    (cases_lt s 6)

pub alike_law : AlikeLaw
alike_law a b ls s w h k = let e = same_reply a b ls s h k in (e, ap (λ (r : Result ℕ Refusal). kept r (added ls s (w ∷ [])) ls) e)

no_words : (ls : Lanes) (s k : ℕ) → lane ls s ≡ [] → (count_of ls s ≡ 0) × (word_at ls s k ≡ None)
no_words ls s k e = rw e (refl, refl)

pub past_law : PastLaw
past_law ls s k six h = let l : length ls ≤ s = omega arith in no_words ls s k (get_or_past ls s [] l)

silent_lane : (s : ℕ) → lane silent s ≡ []
silent_lane zero = refl
silent_lane (suc zero) = refl
silent_lane (suc (suc zero)) = refl
silent_lane (suc (suc (suc zero))) = refl
silent_lane (suc (suc (suc (suc zero)))) = refl
silent_lane (suc (suc (suc (suc (suc zero))))) = refl
silent_lane (suc (suc (suc (suc (suc (suc n)))))) = refl

pub clear_law : ClearLaw
clear_law s k = no_words silent s k (silent_lane s)
