-- Who keeps its bit when a phase is weighed. Z are the sites whose bit is 0, N are the other sites, F is the suspect set.
use Rattle.std.specs.Prelude.{ℕ, ◌/◌, cond, bit_and, count_ones, nat_le, nat_lt}
use Rattle.sites.specs.Sets.{others}

-- the set A, by this table; B is the other one of Z and N
--   at most f / 2 suspects in Z:   A is N where N has more than f sites, else Z
--   more than f / 2 suspects in Z: A is Z where Z has more than f sites, else N
unfoldable pub keepers : ℕ → ℕ → ℕ → ℕ → ℕ
keepers n f F Z =
    cond (nat_le (count_ones (bit_and Z F)) (f / 2))
    (cond (nat_lt f (count_ones (others n Z))) (others n Z) Z)
    (cond (nat_lt f (count_ones Z)) Z (others n Z))
