use Rattle.std.proofs.Common.{[], ◌++◌, take, drop, sym, ap, ◌∙◌, subst}
use Rattle.plans.specs.Plans.{network}
use Rattle.runs.specs.State.{State}
use Rattle.runs.specs.Runs.{none, after, answers}
use Rattle.runs.proofs.Laws.{open_law}
use Rattle.floors.specs.Lists.{Performed}
use Rattle.floors.specs.Views.{view}
use Rattle.floors.proofs.floor.Floor.run.Goals as goal

pub returns : goal.returns
returns g c =
    let z = g.A.Air.size in
    let N = network c.args.plan.now in
    let rogues = c.args.rogues.bits in
    let bits = c.args.bits.bits in
    let st = view g.A.Air.lanes c.args.self.now in
    let ok = sym c.in_ok-open.ensures.answer in
    let law = (open_law N rogues bits st).accepted ok in
    let e = c.in_ok-open.ensures.after ∙ law.1 in
    let k = c.perform.result in
    let cs = c.args.calls.now in
    let p = subst (λ (s : State). Performed z s (take k cs) (take k c.perform.new.answers) (view g.A.Air.lanes c.perform.new.self)) e c.perform.ensures.guarantee in
    record {
      accepted = ok;
      count = c.perform.ensures.count;
      answers = c.perform.ensures.answers ∙ ap (λ (s : State). answers z s (take k cs) ++ drop k c.args.answers.now) e;
      after = c.perform.ensures.after ∙ ap (λ (s : State). after z s (take k cs)) e;
      guarantee = p.guarantee rogues bits [] law.0 none;
    }
