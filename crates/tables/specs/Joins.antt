-- Lists joined over a run of positions.
use Rattle.std.specs.Prelude.{ℕ, zero, suc, ◌+◌, Bool, cond, List, [], ◌++◌}

-- what f gives at each of the n positions from i on at which a test holds, one behind the other
abbrev pub join_from : {X : Type 0} → (ℕ → Bool) → (ℕ → List X) → ℕ → ℕ → List X
join_from p f i zero = []
join_from p f i (suc n) = cond (p i) (f i) [] ++ join_from p f (i + 1) n
