use Rattle.airs.proofs.Strips.{counted}
use Rattle.airs.proofs.strip_air.StripAir.count.Goals as goal

pub returns : goal.returns
returns c = counted c.args.self.now c.args.site c.if-site-ge6.false
