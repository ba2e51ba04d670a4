-- Tests over a run of positions: the first that passes, whether all do, whether any does.
use Rattle.std.specs.Prelude.{ℕ, zero, suc, ◌+◌, Bool, true, false, cond, Some, None, Option}

-- the first of the n positions from i on at which a test holds
abbrev pub first_from : (ℕ → Bool) → ℕ → ℕ → Option ℕ
first_from p i zero = None
first_from p i (suc n) = cond (p i) (Some i) (first_from p (i + 1) n)

-- whether a test holds at each of the n positions from i on
abbrev pub all_from : (ℕ → Bool) → ℕ → ℕ → Bool
all_from p i zero = true
all_from p i (suc n) = cond (p i) (all_from p (i + 1) n) false

-- whether a test holds at one of the n positions from i on
abbrev pub any_from : (ℕ → Bool) → ℕ → ℕ → Bool
any_from p i zero = false
any_from p i (suc n) = cond (p i) true (any_from p (i + 1) n)
