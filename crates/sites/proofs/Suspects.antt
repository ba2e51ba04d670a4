-- The suspect sets are what they should be, in order.
use Rattle.std.proofs.Common.{◌≡◌, ℕ, zero, suc, ◌^◌, ◌<◌, ◌≤◌, eqb, filter, sym, ◌∙◌, inl, inr, ⊎_elim, arith}
use lib.Count.{ones}
use Rattle.std.specs.List.{range_with_len}
use Rattle.std.proofs.lemmas.Bool.{eqb-true, eq-eqb, cases_eq}
use Rattle.sites.specs.Lists.{In}
use Rattle.sites.specs.Suspects.{sized, suspects, Before, SuspectsLaw}
use Rattle.sites.proofs.Lists.{in_left, in_right, in_append, in_kept, kept_in, in_counting, counting_below, Sorted, sorted_at, sorted_distinct, sorted_weaker, sorted_append, sorted_kept, sorted_counting}

pub in_sized : (n k m : ℕ) → m < 2 ^ n → ones m ≡ k → In m (sized n k)
unfolding sized
in_sized n k m h e = in_kept (λ x. eqb (ones x) k) (range_with_len 0 (2 ^ n)) m (in_counting 0 (2 ^ n) m (omega arith) (omega arith)) (eq-eqb (ones m) k e)

pub sized_are : (n k m : ℕ) → In m (sized n k) → (m < 2 ^ n) × (ones m ≡ k)
unfolding sized
sized_are n k m i =
    let r = kept_in (λ x. eqb (ones x) k) (range_with_len 0 (2 ^ n)) m i in
    (omega (arith, counting_below 0 (2 ^ n) m r.0), eqb-true (ones m) k r.1)

pub in_suspects : (n f m : ℕ) → m < 2 ^ n → ones m ≤ f → In m (suspects n f)
unfolding suspects
in_suspects n zero m h k = in_sized n 0 m h (omega arith)
in_suspects n (suc f) m h k = ⊎_elim
    (λ e. in_right (suspects n f) (sized n (suc f)) m (in_sized n (suc f) m h e))
    (λ d. in_left (suspects n f) (sized n (suc f)) m (in_suspects n f m h (omega arith)))
    (cases_eq (ones m) (suc f))

pub suspects_are : (n f m : ℕ) → In m (suspects n f) → (m < 2 ^ n) × (ones m ≤ f)
unfolding suspects
suspects_are n zero m i = let r = sized_are n 0 m i in (r.0, omega (arith, r.1))
suspects_are n (suc f) m i = ⊎_elim
    (λ j. let r = suspects_are n f m j in (r.0, omega (arith, r.1)))
    (λ j. let r = sized_are n (suc f) m j in (r.0, omega (arith, r.1)))
    (in_append (suspects n f) (sized n (suc f)) m i)

sorted_sized : (n k : ℕ) → Sorted Before (sized n k)
unfolding sized
sorted_sized n k = sorted_weaker ◌<◌ Before (filter (λ x. eqb (ones x) k) (range_with_len 0 (2 ^ n)))
    (λ l m i j r. inr (sym_size l i m j, r))
    (sorted_kept ◌<◌ (λ x. eqb (ones x) k) (range_with_len 0 (2 ^ n)) (sorted_counting 0 (2 ^ n)))
  where
    sym_size : (l : ℕ) → In l (filter (λ x. eqb (ones x) k) (range_with_len 0 (2 ^ n))) → (m : ℕ) → In m (filter (λ x. eqb (ones x) k) (range_with_len 0 (2 ^ n))) → ones l ≡ ones m
    sym_size l i m j = (sized_are n k l i).1 ∙ sym (sized_are n k m j).1

pub sorted_suspects : (n f : ℕ) → Sorted Before (suspects n f)
unfolding suspects
sorted_suspects n zero = sorted_sized n 0
sorted_suspects n (suc f) = sorted_append Before (suspects n f) (sized n (suc f)) (sorted_suspects n f) (sorted_sized n (suc f))
    (λ l m i j. inl (omega (arith, (suspects_are n f l i).1, (sized_are n (suc f) m j).1)))

never_before : (m : ℕ) → Before m m → ⊥
never_before m b = ⊎_elim (λ l. omega arith) (λ r. omega (arith, r.1)) b

pub suspects_law : (n f : ℕ) → SuspectsLaw n f
suspects_law n f = record {
  every_set = in_suspects n f;
  no_other = suspects_are n f;
  none_twice = sorted_distinct Before never_before (suspects n f) (sorted_suspects n f);
  in_order = sorted_at Before (suspects n f) 0 (sorted_suspects n f);
}
