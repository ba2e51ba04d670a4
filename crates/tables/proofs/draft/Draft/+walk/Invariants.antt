use Rattle.std.proofs.Common.{◌≡◌, ◌-◌, ◌++◌}
use Rattle.tables.specs.Steps.{can_go, gone_on, walks}
use Rattle.tables.specs.Drafts.{drafted}
use Rattle.tables.specs.Joins.{join_from}
use Rattle.tables.proofs.draft.Draft.+walk.Given as goal

abbrev pub decreases-walk : goal.decreases-walk
decreases-walk l = l.left

abbrev pub invariant-loop-s : goal.invariant-loop-s
invariant-loop-s l =
    (drafted l.self ++ join_from (can_go l.step) (λ s. walks l.here.wiring.now.near l.here.site (gone_on l.here.wiring.now.near l.step s) (l.left - 1)) l.s (6 - l.s)
    ≡ drafted l.initial.self ++ join_from (can_go l.step) (λ s. walks l.here.wiring.now.near l.here.site (gone_on l.here.wiring.now.near l.step s) (l.left - 1)) 0 6)
    × (l.self.ends ≡ l.initial.self.ends)
