use Rattle.std.proofs.Common.{map}
use Rattle.runs.specs.Replies.{turned_site}
use Rattle.floors.specs.Views.{seen, state_of}
use Rattle.floors.proofs.Turned.{Done}
use Rattle.floors.proofs.record.Records.turn.Given as goal

abbrev pub invariant-loop-site : goal.invariant-loop-site
invariant-loop-site g l =
    Done (turned_site (state_of l.ground.base l.rogues.bits l.fn.self (g.A.Air.lanes l.air) l.turns))
    (map seen l.fn.self.sites) l.site (map seen l.record-items)
