use Rattle.std.proofs.Common.{◌+◌, ◌*◌, ◌≤◌, length, ◌∙◌, arith}
use Rattle.airs.specs.Boards.{board_lanes}
use Rattle.floors.specs.Views.{view}
use Rattle.hosts.specs.Calls.{Pair}
use Rattle.hosts.proofs.Performs.{state_more, answers_more}
use Rattle.hosts.proofs.running.perform.Goals as goal

pub loop-k-preserved : goal.loop-k-preserved
loop-k-preserved c =
    let st = view board_lanes c.args.floor.now in
    let mid = view board_lanes c.loop-k.floor in
    let ws = c.args.calls.now in
    let old = c.args.answers.now in
    let k = c.loop-k.k in
    let x : Pair = record { number = c.in_words-number.result.0; value = c.in_words-number.result.1 } in
    let room : 2 * (k + 1) ≤ length old = omega (arith, c.requires.1) in (
      state_more st ws mid _ k c.named_call-call.result c.loop-k.invariant.0 c.named_call-call.ensures c.answer.ensures.after,
      answers_more st ws mid k c.named_call-call.result x old c.loop-k.answers c.loop-k.invariant.0 c.named_call-call.ensures (c.in_words-number.ensures ∙ c.answer.ensures.answer) room c.loop-k.invariant.1,
    )
