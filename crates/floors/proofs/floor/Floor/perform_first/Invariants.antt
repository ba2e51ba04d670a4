use Rattle.std.proofs.Common.{◌≡◌, ◌++◌, take, drop}
use Rattle.runs.specs.Runs.{after, answers}
use Rattle.floors.specs.Views.{view, plan_sheet}
use Rattle.floors.proofs.floor.Floor.perform_first.Given as goal

abbrev pub invariant-loop-i : goal.invariant-loop-i
invariant-loop-i g l =
    (view g.A.Air.lanes l.self ≡ after g.A.Air.size (view g.A.Air.lanes l.initial.self) (take l.i l.calls))
    × (l.answers ≡ answers g.A.Air.size (view g.A.Air.lanes l.initial.self) (take l.i l.calls) ++ drop l.i l.initial.answers)
    × (plan_sheet l.self ≡ plan_sheet l.initial.self)
