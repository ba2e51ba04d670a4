-- The kinds of path words, their numbers, and the lengths and tails that each allows.
use Rattle.std.specs.Prelude.{ℕ, Bool, cond, ◌&&◌, Some, None, Option, ◌==◌, nat_le}
use Rattle.words.specs.declared.kind.Kind.{Kind}
use Rattle.words.specs.declared.kind.Kind.TheVariants.{Flood, Route, Fan}

abbrev pub kind_number : Kind → ℕ
kind_number Flood = 1
kind_number Route = 10
kind_number Fan = 11

abbrev pub kind_named : ℕ → Option Kind
kind_named k = cond (k == 1) (Some Flood) (cond (k == 10) (Some Route) (cond (k == 11) (Some Fan) None))

-- a flood word has 0 to 5 sites, and its tail is a bit; a route or a fan path has 2 to 6 sites, and its tail is 0
abbrev pub suits : Kind → ℕ → ℕ → Bool
suits Flood count tail = nat_le count 5 && nat_le tail 1
suits Route count tail = nat_le 2 count && (nat_le count 6 && tail == 0)
suits Fan count tail = nat_le 2 count && (nat_le count 6 && tail == 0)
