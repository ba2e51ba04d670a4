use Rattle.std.proofs.Common.{◌≡◌}
use Rattle.sites.specs.Sets.{mask_of}
use Rattle.tables.proofs.wirings.hearers.Given as goal

abbrev pub invariant-loop-s : goal.invariant-loop-s
invariant-loop-s g l = l.mask ≡ mask_of l.s (λ s. (g.P.Routing.network l.plan).joined l.site s)
