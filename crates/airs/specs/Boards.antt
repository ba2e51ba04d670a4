-- What a board means.
use Rattle.airs.specs.declared.board.Board.{Board}
use Rattle.airs.specs.Lanes.{Lanes}
use Rattle.airs.specs.SixLanes.{six_lanes}

-- the lanes of a board
abbrev pub board_lanes : Board → Lanes
board_lanes b = six_lanes b.lanes
