use Rattle.std.proofs.Common.{ℕ, ◌*◌, length, drop, sym, ap, ◌∙◌, arith}
use Rattle.std.specs.Slice.Iter.{chunks_exact_rest}
use Rattle.std.proofs.lemmas.List.{length_push}
use Rattle.airs.specs.Boards.{board_lanes}
use Rattle.airs.specs.Lanes.{put_next}
use Rattle.hosts.specs.Answered.{site_of}
use Rattle.hosts.specs.Ends.{heard_first}
use Rattle.hosts.proofs.Heard.{heard_more, pair_read}
use Rattle.hosts.proofs.books.board_of.Goals as goal

pub loop-pair-preserved : goal.loop-pair-preserved
loop-pair-preserved c =
    let ws = c.args.heard.now in
    let k = length c.loop-pair.yielded in
    let step = c.in-Some.ensures.steps in
    let was = c.loop-pair.invariant in
    let read = pair_read ws (chunks_exact_rest c.next.new.self) c.in-Some.pair.now (2 * k) (sym was.1 ∙ step.1.0) (step.1.1 ∙ was.2) in
    let one = length_push c.loop-pair.yielded c.in-Some.pair in (
      heard_more ws k (board_lanes c.loop-pair.board) (board_lanes c.put.new.self) c.named_site.result was.0
          (c.named_site.ensures ∙ ap site_of read.0)
          (c.put.ensures.after ∙ ap (λ (w : ℕ). put_next 120 (board_lanes c.loop-pair.board) c.named_site.result w) read.1)
          ∙ ap (heard_first ws) (sym one),
      read.2 ∙ ap (λ (j : ℕ). drop j ws) (omega (arith, one)),
      step.0 ∙ was.2,
    )
