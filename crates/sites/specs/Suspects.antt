-- The suspect sets: all sets of at most f of n sites, ordered by size and then by mask.
use Rattle.std.specs.Prelude.{◌≡◌, ℕ, zero, suc, ◌^◌, ◌<◌, ◌≤◌, ◌⊎◌, Bool, cond, ◌&&◌, List, ◌++◌, length, filter, Some, None, Option, count_ones, nat_eq, nat_le, nat_lt, slice_index}
use Rattle.std.specs.List.{range_with_len}
use Rattle.sites.specs.Lists.{In, Distinct}

-- the sets of k of the sites below n, by mask
unfoldable pub sized : ℕ → ℕ → List ℕ
sized n k = filter (λ m. nat_eq (count_ones m) k) (range_with_len 0 (2 ^ n))

-- the sets of at most f of the sites below n, by size and then by mask
unfoldable pub suspects : ℕ → ℕ → List ℕ
suspects n zero = sized n 0
suspects n (suc f) = suspects n f ++ sized n (suc f)

-- whether a set is one of at most f of n sites
abbrev pub suspect? : ℕ → ℕ → ℕ → Bool
suspect? n f F = nat_lt F (2 ^ n) && nat_le (count_ones F) f

-- the k-th suspect set; none past the last
abbrev pub set_at : ℕ → ℕ → ℕ → Option ℕ
set_at n f k = cond (nat_lt k (length (suspects n f))) (Some (slice_index (suspects n f) k)) None

-- l comes before m: it has fewer sites, or as many and a smaller mask
abbrev pub Before : ℕ → ℕ → Type 0
Before l m = (count_ones l < count_ones m) ⊎ ((count_ones l ≡ count_ones m) × (l < m))

-- the list has exactly the sets of at most f of n sites, none twice, each before the next
pub record SuspectsLaw (n f : ℕ) : Type 0 where
  pub every_set : (m : ℕ) → m < 2 ^ n → count_ones m ≤ f → In m (suspects n f)
  pub no_other : (m : ℕ) → In m (suspects n f) → (m < 2 ^ n) × (count_ones m ≤ f)
  pub none_twice : Distinct (suspects n f)
  pub in_order : (i j : ℕ) → i < j → j < length (suspects n f) → Before (slice_index (suspects n f) i) (slice_index (suspects n f) j)
