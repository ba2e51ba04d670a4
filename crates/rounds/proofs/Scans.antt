-- The scan of a lane for one of two words.
use Rattle.std.proofs.Common.{◌≡◌, ℕ, zero, suc, ◌+◌, ◌<◌, ◌≤◌, true, false, cond, eqb, leb, List, ◌∷◌, length, get_or, drop, unwrap_or, Some, None, Option, MatchOption, sym, refl, ap, ◌∙◌, ⊎_elim, add-one, arith}
use Rattle.std.specs.List.{slice_get}
use Rattle.std.proofs.lemmas.Option.{slice_get-get_or}
use Rattle.std.proofs.lemmas.List.{drop_more, drop_all}
use Rattle.std.proofs.lemmas.Bool.{both_ways, cases_lt, le-leb, eq-eqb, ne_eqb}
use Rattle.notebooks.specs.Floods.{first_of_two}
use Rattle.rounds.specs.Ears.{Below, stops_at}

module _ (wanted k w : ℕ) (ls : List ℕ) (below : k < length ls) (is : Some w ≡ slice_get ls k) where
  pub first_step : first_of_two wanted (drop k ls) ≡ first_of_two wanted (w ∷ drop (k + 1) ls)
  first_step =
      let n = slice_get-get_or ls k 0 below in
      let e : get_or ls k 0 ≡ w = cc in
      ap (first_of_two wanted) (drop_more ls k 0 below) ∙ ap (λ x. first_of_two wanted (x ∷ drop (k + 1) ls)) e

  pub first_zero : w ≡ wanted → first_of_two wanted (drop k ls) ≡ false
  first_zero e = first_step ∙ ap (λ b. cond b false (cond (eqb w (wanted + 1)) true (first_of_two wanted (drop (k + 1) ls)))) (eq-eqb w wanted e)

  pub first_other : (w ≡ wanted → ⊥) → first_of_two wanted (drop k ls) ≡ cond (eqb w (wanted + 1)) true (first_of_two wanted (drop (k + 1) ls))
  first_other e = first_step ∙ ap (λ b. cond b false (cond (eqb w (wanted + 1)) true (first_of_two wanted (drop (k + 1) ls)))) (ne_eqb w wanted e)

  pub first_one : (w ≡ wanted → ⊥) → w ≡ wanted + 1 → first_of_two wanted (drop k ls) ≡ true
  first_one e h = first_other e ∙ ap (λ b. cond b true (first_of_two wanted (drop (k + 1) ls))) (eq-eqb w (wanted + 1) h)

  pub first_skip : (w ≡ wanted → ⊥) → (w ≡ wanted + 1 → ⊥) → first_of_two wanted (drop k ls) ≡ first_of_two wanted (drop (k + 1) ls)
  first_skip e h = first_other e ∙ ap (λ b. cond b true (first_of_two wanted (drop (k + 1) ls))) (ne_eqb w (wanted + 1) h)

pub first_end : (wanted k : ℕ) (ls : List ℕ) → length ls ≤ k → first_of_two wanted (drop k ls) ≡ true
first_end wanted k ls h = ap (first_of_two wanted) (drop_all k ls h)

pub never_none : (k : ℕ) (ls : List ℕ) → k < length ls → None ≡ slice_get ls k → ⊥
never_none k ls h e =
    let n = slice_get-get_or ls k 0 h in
    let z : ◌≡◌ {A = ℕ} 0 1 = cc in omega arith

-- ---- what is passed over

-- what stands below the wanted word is passed over
low_all : (ws : List ℕ) (w k : ℕ) → k ≤ length ws → ((j : ℕ) → j < k → get_or ws j 0 < w) → first_of_two w (drop k ws) ≡ first_of_two w ws
low_all ws w zero le h = refl
low_all ws w (suc k) le h =
    let lt : k < length ws = omega arith in
    let l : get_or ws k 0 < w = h k (omega arith) in
    ap (λ i. first_of_two w (drop i ws)) (sym (add-one k))
    ∙ sym (first_skip w k (get_or ws k 0) ws lt (sym (slice_get-get_or ws k 0 lt)) (λ e. omega arith) (λ e. omega arith))
    ∙ low_all ws w k (omega arith) (λ j i. h j (omega arith))

module _ (w : ℕ) (ws : List ℕ) where
  pub low_skip : (k : ℕ) → Below ws k w → first_of_two w (drop k ws) ≡ first_of_two w ws
  low_skip k b = low_all ws w k b.few b.low

  low_to : (i m : ℕ) → i ≤ m → m ≤ length ws → Below ws i w → ((k : ℕ) → i ≤ k → k < m → stops_at w (slice_get ws k) ≡ false) → Below ws m w
  low_to i m le end b h = record {
    few = end;
    low = λ j lt.
        ⊎_elim
        (λ (l : j < i). b.low j l)
        (λ (l : i ≤ j). ⊎_elim
        (λ (s : get_or ws j 0 < w). s)
        (λ (g : w ≤ get_or ws j 0). absurd (both_ways (leb w (get_or ws j 0)) (sym (ap (stops_at w) (slice_get-get_or ws j 0 (omega arith))) ∙ h j l lt) (le-leb w (get_or ws j 0) g)))
        (cases_lt (get_or ws j 0) w))
        (cases_lt j i);
  }

  pub passed : (i m n : ℕ) (o : Option ℕ) → Below ws i w → n ≡ length ws →
      MatchOption o ((k : ℕ) → i ≤ k → k < n → stops_at w (slice_get ws k) ≡ false)
      (λ j. (i ≤ j) × (j < n) × (stops_at w (slice_get ws j) ≡ true) × ((k : ℕ) → i ≤ k → k < j → stops_at w (slice_get ws k) ≡ false)) →
      m ≡ unwrap_or o n → Below ws m w
  passed i m n None b at h e = low_to i m (omega (arith, b.few)) (omega arith) b (λ k lo hi. h k lo (omega arith))
  passed i m n (Some j) b at h e = low_to i m (omega (arith, h.0)) (omega (arith, h.1)) b (λ k lo hi. h.3 k lo (omega arith))
