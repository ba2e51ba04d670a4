use Rattle.std.proofs.Common.{arith}
use Rattle.std.proofs.lemmas.Nat.{one_shl, pow_below}
use Rattle.tables.proofs.site_wiring.SiteWiring.root.Goals as goal

pub overflow_sub-result-2 : goal.overflow_sub-result-2
overflow_sub-result-2 c =
    omega (arith, one_shl c.args.self.now.site 32 (omega arith), one_shl c.args.self.now.wiring.now.n 32 (omega arith), pow_below c.args.self.now.site c.args.self.now.wiring.now.n (omega arith))
