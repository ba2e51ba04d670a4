-- What a chain of an iterator's methods tells, as a test over positions.
use Rattle.std.proofs.Common.{◌≡◌, ℕ, zero, suc, ◌+◌, ◌-◌, ◌<◌, ◌≤◌, Bool, true, false, List, length, take, get_or, Some, None, Option, IsTrue, ◌↔◌, ap, sym, refl, ◌∙◌, subst, ⊎_elim, arith}
use Rattle.std.specs.Option.{unwrap_or}
use Rattle.std.proofs.lemmas.Bool.{cases_Bool, cases_eq, cond-true, cond-false, both_ways}
use Rattle.std.proofs.lemmas.List.{length-take-le, get_or-take}
use Rattle.sites.specs.Positions.{all_from, any_from}
use Rattle.sites.proofs.Positions.{all_is, all_at, all_by}

any_by : (p : ℕ → Bool) (i n k : ℕ) → i ≤ k → k < i + n → p k ≡ true → any_from p i n ≡ true
any_by p i zero k lo hi e = absurd (omega arith)
any_by p i (suc n) k lo hi e =
    ⊎_elim
    (λ t. cond-true (p i) true (any_from p (i + 1) n) t)
    (λ f. cond-false (p i) true (any_from p (i + 1) n) f
    ∙ ⊎_elim
    (λ s. absurd (both_ways _ f (subst (λ (x : ℕ). p x ≡ true) (sym s) e)))
    (λ s. any_by p (i + 1) n k (omega arith) (omega arith) e)
    (cases_eq i k))
    (cases_Bool (p i))

any_at : (p : ℕ → Bool) (i n : ℕ) → any_from p i n ≡ true → (k : ℕ) × (i ≤ k) × (k < i + n) × IsTrue (p k)
any_at p i zero e = absurd (both_ways false refl e)
any_at p i (suc n) e =
    ⊎_elim
    (λ t. (i, omega arith, omega arith, t))
    (λ f. let q = any_at p (i + 1) n (sym (cond-false (p i) true (any_from p (i + 1) n) f) ∙ e) in
    (q.0, omega (arith, q.1), omega (arith, q.2), q.3))
    (cases_Bool (p i))

-- a test that is true just where some place behind the head passes
pub any_later : (p : ℕ → Bool) (n : ℕ) (r : Bool) → (IsTrue r ↔ ((k : ℕ) × (1 ≤ k) × (k < n) × IsTrue (p k))) → r ≡ any_from p 1 (n - 1)
any_later p n true h = let q = h.0 refl in sym (any_by p 1 (n - 1) q.0 q.1 (omega (arith, q.1, q.2)) q.3)
any_later p n false h = ⊎_elim
    (λ t. let q = any_at p 1 (n - 1) t in absurd (both_ways false refl (h.1 (q.0, q.1, omega (arith, q.1, q.2), q.3))))
    (λ f. sym f)
    (cases_Bool (any_from p 1 (n - 1)))

-- the place found, or the length where there is none
pub or_length : (r : Option ℕ) (n : ℕ) (o : Option ℕ) → r ≡ o → unwrap_or r n ≡ (elim o [ Some i ↦ i | None ↦ n ])
or_length r n None e = ap (λ (x : Option ℕ). unwrap_or x n) e
or_length r n (Some m) e = ap (λ (x : Option ℕ). unwrap_or x n) e

-- a test of the first k items of a list
pub of_earlier : (t : ℕ → Bool) (k : ℕ) (xs : List ℕ) → k ≤ length xs → all_from (λ j. t (get_or (take k xs) j 0)) 0 (length (take k xs)) ≡ all_from (λ j. t (get_or xs j 0)) 0 k
of_earlier t k xs h =
    subst (λ (n : ℕ). all_from (λ j. t (get_or (take k xs) j 0)) 0 n ≡ all_from (λ j. t (get_or xs j 0)) 0 k) (sym (length-take-le k xs h)) (all_is (λ j. t (get_or xs j 0)) 0 k _ (
      λ e j lo hi. subst (λ (x : ℕ). t x ≡ true) (get_or-take k xs j 0 (omega arith)) (all_at (λ i. t (get_or (take k xs) i 0)) 0 k e j lo hi),
      λ f. all_by (λ i. t (get_or (take k xs) i 0)) 0 k (λ j lo hi. subst (λ (x : ℕ). t x ≡ true) (sym (get_or-take k xs j 0 (omega arith))) (f j lo hi)),
    ))
