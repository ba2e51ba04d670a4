-- Whether a sheet passes every check.
use Rattle.std.specs.Prelude.{ℕ, Bool, List, is_ok}
use Rattle.plans.specs.Complete.{judged}

abbrev pub complete? : List ℕ → Bool
complete? ws = is_ok (judged ws)
