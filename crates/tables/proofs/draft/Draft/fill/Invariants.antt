use Rattle.std.proofs.Common.{◌-◌}
use Rattle.tables.specs.Drafts.{Lists}
use Rattle.tables.proofs.draft.Draft.fill.Given as goal

abbrev pub invariant-loop-k : goal.invariant-loop-k
invariant-loop-k l = Lists l.here.wiring.now.n l.here.wiring.now.near l.here.site (l.k - 1) l.self
