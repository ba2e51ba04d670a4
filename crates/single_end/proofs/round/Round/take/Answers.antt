use Rattle.std.proofs.Common.{sym, ◌∙◌}
use Rattle.plans.specs.Plans.{network}
use Rattle.airs.specs.Lanes.{lane}
use Rattle.notebooks.specs.Floods.{heard_in}
use Rattle.single_end.proofs.Fit.{still_here, book_is}
use Rattle.single_end.proofs.round.Round.take.Goals as goal

pub returns : goal.returns
returns g c =
    let N = network c.args.plan.now in
    let e = c.args.self.end in
    let same = sym c.fits.ensures ∙ c.if-not-fits.false in (
      same,
      c.on.ensures,
      c.hear.ensures
          ∙ book_is N e.site c.table.result c.table.ensures (still_here N e.site e.n e.f same e.here) c.args.self.round (heard_in (lane (g.A.Air.lanes c.args.air.now))) c.args.notebook.now.words,
    )
