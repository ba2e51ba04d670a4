use Rattle.std.proofs.Common.{◌∙◌}
use Rattle.airs.specs.Lanes.{lane}
use Rattle.rounds.proofs.Scans.{low_skip}
use Rattle.rounds.proofs.ears.Ear.hear.Goals as goal

pub returns : goal.returns
returns g c =
    let ls = lane (g.A.Air.lanes c.args.air.now) c.args.site in
    record {
      heard = c.search.ensures ∙ low_skip c.args.wanted ls c.pass-place.result c.pass-place.ensures;
      tuned = c.pass-place.ensures;
    }
