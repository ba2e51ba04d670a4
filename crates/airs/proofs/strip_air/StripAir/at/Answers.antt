use Rattle.std.proofs.Common.{sym, arith}
use Rattle.std.proofs.lemmas.Option.{slice_get_past}
use Rattle.airs.specs.Lanes.{lane}
use Rattle.airs.specs.Strips.{strip_lanes}
use Rattle.airs.proofs.strip_air.StripAir.at.Goals as goal

pub returns-else-position-count : goal.returns-else-position-count
returns-else-position-count c = sym (slice_get_past (lane (strip_lanes c.args.self.now) c.args.site) c.args.position (omega arith))
