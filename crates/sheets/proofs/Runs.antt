-- The words from a place on, where the sheet ends sooner.
use Rattle.std.proofs.Common.{◌≡◌, ℕ, ◌+◌, ◌-◌, ◌<◌, eqb, leb, min, List, [], length, take, drop, sym, ap, ◌∙◌, subst, ⊎_elim, arith}
use Rattle.std.proofs.lemmas.List.{take_all, drop_all, length-take, length-take-le, length-drop}
use Rattle.std.proofs.lemmas.Bool.{cases_lt, eq-eqb, ne_eqb, le-leb, lt-leb}

-- taking more than there is takes all of it
pub take_clipped : (k m : ℕ) (xs : List ℕ) → k ≡ min m (length xs) → take k xs ≡ take m xs
take_clipped k m xs e =
    ⊎_elim
    (λ l. ap (λ (n : ℕ). take n xs) (omega arith))
    (λ l. take_all k xs (omega arith) ∙ sym (take_all m xs (omega arith)))
    (cases_lt m (length xs))

pub run_clipped : (s k i m : ℕ) (xs : List ℕ) → s ≡ min i (length xs) → k ≡ min m (length xs - s) → take (s + k - s) (drop s xs) ≡ take m (drop i xs)
run_clipped s k i m xs e d =
    ⊎_elim
    (λ l. let z : s ≡ i = omega arith in
    subst (λ (n : ℕ). take (s + k - s) (drop n xs) ≡ take m (drop i xs)) (sym z) (take_clipped (s + k - s) m (drop i xs) (omega (arith, length-drop i xs))))
    (λ l. let a = drop_all s xs (omega arith) in let b = drop_all i xs l in
    ap (λ (ys : List ℕ). take (s + k - s) ys) a ∙ take_all (s + k - s) [] (omega arith) ∙ sym (ap (λ (ys : List ℕ). take m ys) b ∙ take_all m [] (omega arith)))
    (cases_lt i (length xs))

-- a run is whole just where so many words are left
pub whole_run : (i m : ℕ) (xs : List ℕ) → 0 < m → eqb (length (take m (drop i xs))) m ≡ leb (i + m) (length xs)
whole_run i m xs h =
    ⊎_elim
    (λ l. ne_eqb _ _ (λ e. omega (arith, length-take-le m (drop i xs), length-take m (drop i xs), length-drop i xs)) ∙ sym (lt-leb (i + m) (length xs) l))
    (λ l. eq-eqb _ _ (length-take-le m (drop i xs) (omega (arith, length-drop i xs))) ∙ sym (le-leb (i + m) (length xs) l))
    (cases_lt (length xs) (i + m))
