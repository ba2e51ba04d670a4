use Rattle.std.proofs.Common.{Ok, sym, ap, ◌∙◌, arith}
use Rattle.airs.specs.Boards.{board_lanes}
use Rattle.floors.specs.Views.{view}
use Rattle.floors.proofs.Turns.{few_turns}
use Rattle.runs.specs.declared.calls.Value.{Value}
use Rattle.hosts.proofs.Counts.{count_fits}
use Rattle.hosts.proofs.running.answer.Goals as goal

pub overflow_cast-result : goal.overflow_cast-result
overflow_cast-result c =
    let f = c.args.floor.now in
    omega (arith, count_fits (view board_lanes f) (few_turns f.ground.base f.turns) c.in_ok-ok_or.field-0 c.in-Count.count (sym c.in_ok-value.ensures.answer ∙ ap (λ (v : Value). Ok v) c.in-Count.is))
