use Rattle.std.proofs.Common.{◌≡◌, drop}
use Rattle.airs.specs.Lanes.{lane}
use Rattle.notebooks.specs.Floods.{first_of_two}
use Rattle.rounds.proofs.hearing.search.Given as goal

abbrev pub invariant-loop-k : goal.invariant-loop-k
invariant-loop-k g l = first_of_two l.wanted (drop l.k (lane (g.A.Air.lanes l.air) l.site)) ≡ first_of_two l.wanted (drop l.start (lane (g.A.Air.lanes l.air) l.site))
