use Rattle.std.proofs.Common.{Result, ap, ◌∙◌}
use Rattle.runs.specs.State.{opened}
use Rattle.hosts.specs.declared.refused.HostRefusal.{HostRefusal}
use Rattle.hosts.specs.Answered.{answered, left_by}
use Rattle.hosts.specs.Sheets.{sheet_network}
use Rattle.hosts.specs.Replays.{performed, answers_over}
use Rattle.hosts.proofs.Performs.{run_guaranteed}
use Rattle.hosts.proofs.running.rolgevin_run.Goals as goal

pub returns : goal.returns
returns c =
    let sheet = c.args.sheet.now in
    let calls = c.args.calls.now in
    let old = c.args.answers.now in
    let st = opened (sheet_network sheet) c.args.rogues c.args.bits in
    record {
      number = c.answered.ensures ∙ ap answered c.run.ensures.reply;
      answers = c.run.ensures.answers ∙ ap (λ (r : Result (Unit {0}) HostRefusal). left_by r (λ _. answers_over st calls (performed calls old) old) old) c.run.ensures.reply;
      guarantee = run_guaranteed sheet c.args.rogues c.args.bits calls;
    }
