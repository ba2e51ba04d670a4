use Rattle.std.proofs.Common.{◌≡◌, ◌++◌, take, drop}
use Rattle.airs.specs.Boards.{board_lanes}
use Rattle.airs.specs.Lanes.{lane}
use Rattle.hosts.proofs.books.write_lane.Given as goal

abbrev pub invariant-loop-k : goal.invariant-loop-k
invariant-loop-k l = l.room ≡ take l.k (lane (board_lanes l.board) l.site) ++ drop l.k l.initial.room
