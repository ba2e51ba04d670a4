-- Sets of sites as masks: site s is in the set m where bit s of m is set, bit 0 lowest.
use Rattle.std.specs.Prelude.{ℕ, zero, suc, ◌+◌, ◌-◌, ◌/◌, ◌%◌, ◌^◌, Bool, cond, ◌==◌}

-- site s is in the set m
abbrev pub in_set : ℕ → ℕ → Bool
in_set m s = m / 2 ^ s % 2 == 1

-- the set of the sites below n that pass a test
unfoldable pub mask_of : ℕ → (ℕ → Bool) → ℕ
mask_of zero test = 0
mask_of (suc n) test = mask_of n test + cond (test n) (2 ^ n) 0

-- the sites below n that are not in m, a set of sites below n
abbrev pub others : ℕ → ℕ → ℕ
others n m = 2 ^ n - 1 - m
