use Rattle.std.proofs.Common.{◌≡◌, ◌*◌, length, drop}
use Rattle.std.specs.Slice.Iter.{chunks_exact_rest, chunks_exact_size}
use Rattle.airs.specs.Boards.{board_lanes}
use Rattle.hosts.specs.Ends.{heard_first}
use Rattle.hosts.proofs.books.board_of.Given as goal

abbrev pub invariant-loop-pair : goal.invariant-loop-pair
invariant-loop-pair l =
    (board_lanes l.board ≡ heard_first l.heard (length l.yielded))
    × (chunks_exact_rest l.pair-iterator ≡ drop (2 * length l.yielded) l.heard)
    × (chunks_exact_size l.pair-iterator ≡ 2)
