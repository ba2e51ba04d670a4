-- What a chain over a range tells, where the closure answers a test p at each number.
use Rattle.std.proofs.Common.{◌≡◌, ℕ, ◌+◌, ◌-◌, ◌<◌, ◌≤◌, Bool, true, false, Some, None, Option, IsTrue, MatchBool, MatchOption, IfSome, IsSomeAnd, ap, sym, ◌∙◌, subst, ⊎_elim, arith}
use Rattle.std.specs.Option.{option_map}
use Rattle.std.specs.declared.ops.Range.{Range}
use Rattle.std.specs.Iterator.Runs.{Run, SomeRun, CallKeepsClosure, AllItemsGive, AnyItemGives, NoItemPasses, EndsAtFirstPassing}
use Rattle.std.specs.Fn.{Mut, Called, CalledAt}
use Rattle.std.proofs.iter.Yields.{nat_range_steps}
use Rattle.std.proofs.iter.runs.Sources.{range_runs}
use Rattle.std.proofs.lemmas.Bool.{cases_Bool, both_ways}
use denote.Ref.{Bor}
use Rattle.sites.specs.Positions.{first_from, all_from}
use Rattle.sites.proofs.Positions.{all_at, all_by, no_first, this_first}

same_option : (o : Option ℕ) (n : ℕ) → option_map (λ y. y) o ≡ Some n → o ≡ Some n
same_option None n e = e
same_option (Some x) n e = e

-- the number at a place of a run
at_number : (q : Run nat_range_steps) (k : ℕ) → k < q.len → q.at k ≡ Some (q.from.start + k)
at_number q k l = same_option (q.at k) (q.from.start + k) ((range_runs q q.seen).3 k l)

module _ {F : Type 0} (g : Mut F (ℕ × Unit {0}) Bool) (f : F) (s : Range ℕ) (p : ℕ → Bool) (keeps : CallKeepsClosure g f)
    (is : (k : ℕ) (b : Bool) → s.start ≤ k → k < s.end → Called g f (k, tt) b f → b ≡ p k) where
  all_from_start : (n : ℕ) (r : Bool) → n ≡ s.end - s.start → SomeRun nat_range_steps s (λ q. MatchBool r (IsTrue q.whole × AllItemsGive q g f true) (AnyItemGives q g f false)) → r ≡ all_from p s.start n
  all_from_start n true m run =
      let q = run.0 in
      let a : q.from.start ≡ s.start = ap (λ (x : Range ℕ). x.start) run.1 in
      let b : q.from.end ≡ s.end = ap (λ (x : Range ℕ). x.end) run.1 in
      let l : q.len ≡ q.from.end - q.from.start = (range_runs q q.seen).1 run.2.0 in
      sym (all_by p s.start n (λ k lo hi.
      let e : q.at (k - s.start) ≡ Some k = at_number q (k - s.start) (omega (arith, a, b, l, m, lo, hi)) ∙ ap (λ (x : ℕ). Some x) (omega (arith, a, lo)) in
      sym (is k true lo (omega (arith, m, lo, hi)) (subst (λ (o : Option ℕ). IfSome o (λ x. Called g f (x, tt) true f)) e (run.2.1 keeps (k - s.start))))))
  all_from_start n false m run =
      let q = run.0 in
      let a : q.from.start ≡ s.start = ap (λ (x : Range ℕ). x.start) run.1 in
      let b : q.from.end ≡ s.end = ap (λ (x : Range ℕ). x.end) run.1 in
      let l : q.len ≤ q.from.end - q.from.start = (range_runs q q.seen).0 in
      let t = run.2 keeps in
      let x = q.from.start + t.0 in
      let d : false ≡ p x = is x false (omega (arith, a)) (omega (arith, a, b, l, t.1)) (subst (λ (o : Option ℕ). IsSomeAnd o (λ y. Called g f (y, tt) false f)) (at_number q t.0 t.1) t.2) in
      ⊎_elim
      (λ y. absurd (both_ways _ (sym d) (all_at p s.start n y x (omega (arith, a)) (omega (arith, a, b, l, m, t.1)))))
      (λ y. sym y)
      (cases_Bool (all_from p s.start n))

  pub all_numbers : (a n : ℕ) (r : Bool) → a ≡ s.start → n ≡ s.end - s.start → SomeRun nat_range_steps s (λ q. MatchBool r (IsTrue q.whole × AllItemsGive q g f true) (AnyItemGives q g f false)) → r ≡ all_from p a n
  all_numbers a n r e m run = subst (λ (i : ℕ). r ≡ all_from p i n) (sym e) (all_from_start n r m run)

module _ {F : Type 0} (g : Mut F (Bor ℕ × Unit {0}) Bool) (f : F) (s : Range ℕ) (p : ℕ → Bool) (keeps : CallKeepsClosure g f)
    (is : (k : ℕ) (b : Bool) → s.start ≤ k → k < s.end → CalledAt g f k b f → b ≡ p k) where
  found_from_start : (r : Option ℕ) → SomeRun nat_range_steps s (λ q. MatchOption r (IsTrue q.whole × NoItemPasses q g f) (EndsAtFirstPassing q g f)) → r ≡ first_from p s.start (s.end - s.start)
  found_from_start None run =
      let q = run.0 in
      let a : q.from.start ≡ s.start = ap (λ (x : Range ℕ). x.start) run.1 in
      let b : q.from.end ≡ s.end = ap (λ (x : Range ℕ). x.end) run.1 in
      let n : q.len ≡ q.from.end - q.from.start = (range_runs q q.seen).1 run.2.0 in
      sym (no_first p s.start (s.end - s.start) (λ k lo hi.
      let e : q.at (k - s.start) ≡ Some k = at_number q (k - s.start) (omega (arith, a, b, n, lo, hi)) ∙ ap (λ (x : ℕ). Some x) (omega (arith, a, lo)) in
      sym (is k false lo (omega (arith, lo, hi)) (subst (λ (o : Option ℕ). IfSome o (λ x. CalledAt g f x false f)) e (run.2.1 keeps (k - s.start))))))
  found_from_start (Some x) run =
      let q = run.0 in
      let a : q.from.start ≡ s.start = ap (λ (x : Range ℕ). x.start) run.1 in
      let b : q.from.end ≡ s.end = ap (λ (x : Range ℕ). x.end) run.1 in
      let i = run.2.0 in
      let m : q.len ≤ q.from.end - q.from.start = (range_runs q q.seen).0 in
      let e : Some x ≡ Some (q.from.start + i) = sym run.2.2 ∙ at_number q i (omega (arith, run.2.1)) in
      let d : x ≡ q.from.start + i = cc in
      let t = run.2.3 keeps in
      sym (this_first p s.start (s.end - s.start) x (omega (arith, a, d)) (omega (arith, a, b, d, m, run.2.1)) (sym (is x true (omega (arith, a, d)) (omega (arith, a, b, d, m, run.2.1)) t.0)) (λ k lo hi.
      let c : q.at (k - s.start) ≡ Some k = at_number q (k - s.start) (omega (arith, a, d, lo, hi, run.2.1)) ∙ ap (λ (x : ℕ). Some x) (omega (arith, a, lo)) in
      sym (is k false lo (omega (arith, a, b, d, m, lo, hi, run.2.1)) (subst (λ (o : Option ℕ). IsSomeAnd o (λ y. CalledAt g f y false f)) c (t.1 (k - s.start) (omega (arith, a, d, lo, hi)))))))

  pub found_number : (a n : ℕ) (r : Option ℕ) → a ≡ s.start → n ≡ s.end - s.start → SomeRun nat_range_steps s (λ q. MatchOption r (IsTrue q.whole × NoItemPasses q g f) (EndsAtFirstPassing q g f)) → r ≡ first_from p a n
  found_number a n r e m run =
      subst (λ (i : ℕ). r ≡ first_from p i n) (sym e) (subst (λ (j : ℕ). r ≡ first_from p s.start j) (sym m) (found_from_start r run))
