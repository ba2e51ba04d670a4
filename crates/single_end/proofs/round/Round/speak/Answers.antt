use Rattle.std.proofs.Common.{sym, ◌∙◌}
use Rattle.plans.specs.Plans.{network}
use Rattle.single_end.specs.States.{seen_round}
use Rattle.single_end.proofs.Fit.{spoken_reply, spoken_next}
use Rattle.single_end.proofs.round.Round.speak.Goals as goal

pub returns : goal.returns
returns g c =
    let N = network c.args.plan.now in
    let e = seen_round c.args.self.now in
    let ls = g.A.Air.lanes c.args.air.now in
    let book = c.args.notebook.now.words in
    let same = sym c.fits.ensures ∙ c.if-not-fits.false in
    record {
      answer = c.put.ensures.answer ∙ spoken_reply g.A.Air.size N ls e book c.table.result c.table.ensures same c.args.self.now.end.here;
      after = c.put.ensures.after ∙ spoken_next g.A.Air.size N ls e book c.table.result c.table.ensures same c.args.self.now.end.here;
    }
