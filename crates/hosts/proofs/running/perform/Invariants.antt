use Rattle.std.proofs.Common.{◌≡◌}
use Rattle.airs.specs.Boards.{board_lanes}
use Rattle.floors.specs.Views.{view}
use Rattle.runs.specs.Runs.{after}
use Rattle.hosts.specs.Calls.{calls_in}
use Rattle.hosts.specs.Replays.{answers_over}
use Rattle.hosts.proofs.running.perform.Given as goal

abbrev pub invariant-loop-k : goal.invariant-loop-k
invariant-loop-k l =
    (view board_lanes l.floor ≡ after 120 (view board_lanes l.initial.floor) (calls_in l.calls l.k))
    × (l.answers ≡ answers_over (view board_lanes l.initial.floor) l.calls l.k l.initial.answers)
