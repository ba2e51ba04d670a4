-- What a test of all numbers below n tells.
use Rattle.std.proofs.Common.{◌≡◌, ℕ, ◌+◌, ◌-◌, ◌<◌, ◌≤◌, Bool, true, false, not, Some, None, Option, List, length, get_or, MatchBool, sym, ap, ◌∙◌, subst, ⊎_elim, arith}
use Rattle.std.specs.Option.{option_map}
use Rattle.std.specs.Fn.{Called}
use denote.Param.Members.{Mut}
use Rattle.std.specs.Iterator.{ChecksAll}
use Rattle.std.specs.declared.ops.Range.{Range}
use Rattle.std.specs.List.{range_with_len, AllWithin, HoldsAt}
use Rattle.std.proofs.iter.Yields.{nat_range_steps}
use Rattle.std.proofs.lemmas.Iterator.{cases_from_all, YieldsList-from_range}
use Rattle.std.proofs.lemmas.List.FromFn.{length-range_with_len, get_or-range_with_len}
use Rattle.std.proofs.lemmas.Bool.{cases_Bool, both_ways}
use Rattle.sites.specs.Positions.{first_from, all_from}
use Rattle.sites.proofs.Positions.{first_hit, first_miss, first_end, all_at, all_by}

module _ (p : ℕ → Bool) (n : ℕ) where
  told : (b : Bool) → MatchBool b (AllWithin (λ x. p x ≡ true) (range_with_len 0 n) 0 (length (range_with_len 0 n))) ((k : ℕ) × (k < length (range_with_len 0 n)) × HoldsAt (λ x. p x ≡ false) (range_with_len 0 n) k) → b ≡ all_from p 0 n
  told true m =
      sym (all_by p 0 n (λ k lo hi. let e : 0 + k ≡ k = omega arith in subst (λ (x : ℕ). p x ≡ true) (get_or-range_with_len 0 n k 0 (omega arith) ∙ e) (m k 0 lo (omega (arith, length-range_with_len 0 n)))))
  told false m =
      let l : m.0 < n = omega (arith, m.1, length-range_with_len 0 n) in
      let e : 0 + m.0 ≡ m.0 = omega arith in
      let no : p m.0 ≡ false = subst (λ (x : ℕ). p x ≡ false) (get_or-range_with_len 0 n m.0 0 l ∙ e) (m.2 0) in
      ⊎_elim (λ t. absurd (both_ways (p m.0) no (all_at p 0 n t m.0 (omega arith) (omega arith)))) (λ z. sym z) (cases_Bool (all_from p 0 n))

  -- `all` over a range, where each call answers p and leaves the closure as it was
  pub all_counted : {F : Type 0} {g : Mut F (ℕ × Unit {0}) Bool} {s : Range ℕ} (u : Range ℕ) (f : F) (r : Bool) → ChecksAll nat_range_steps g s f r u → s ≡ record { start = 0; end = n } →
      ((x : ℕ) (b : Bool) (q : F) → Called g f (x, tt) b q → (q ≡ f) × (b ≡ p x)) → r ≡ all_from p 0 n
  all_counted u f r ran e h = told r
      (cases_from_all u f r (λ x. p x ≡ true) (λ x. p x ≡ false) ran (YieldsList-from_range 0 n n e (omega arith))
      (λ x q k. let m = h x true q k in (m.0, sym m.1)) (λ x q k. sym (h x false q k).1))

-- ---- the turns of a loop over a list's items, up to the first that fails a test
module _ (t : ℕ → Bool) (xs : List ℕ) where
  -- the first of all that fails, and the first from place k on
  abbrev pub first_failing : Option ℕ
  first_failing = first_from (λ k. not (t (get_or xs k 0))) 0 (length xs)

  abbrev pub failing_from : ℕ → Option ℕ
  failing_from k = first_from (λ k. not (t (get_or xs k 0))) k (length xs - k)

  pub one_fails : (k x : ℕ) → k < length xs → x ≡ get_or xs k 0 → t x ≡ false → failing_from k ≡ first_failing → Some x ≡ option_map (λ k. get_or xs k 0) first_failing
  one_fails k x l e h same =
      let no : not (t (get_or xs k 0)) ≡ true = ap not (ap t (sym e) ∙ h) in
      ap Some e ∙ ap (option_map (λ k. get_or xs k 0)) (sym (first_hit (λ k. not (t (get_or xs k 0))) k (length xs) l no) ∙ same)

  pub one_passes : (k x : ℕ) → k < length xs → x ≡ get_or xs k 0 → t x ≡ true → failing_from k ≡ first_failing → failing_from (k + 1) ≡ first_failing
  one_passes k x l e h same =
      let yes : not (t (get_or xs k 0)) ≡ false = ap not (ap t (sym e) ∙ h) in
      sym (first_miss (λ k. not (t (get_or xs k 0))) k (length xs) l yes) ∙ same

  pub none_fails : (k : ℕ) → length xs ≤ k → failing_from k ≡ first_failing → None ≡ option_map (λ k. get_or xs k 0) first_failing
  none_fails k l same = ap (option_map (λ k. get_or xs k 0)) (sym (first_end (λ k. not (t (get_or xs k 0))) k (length xs) l) ∙ same)
