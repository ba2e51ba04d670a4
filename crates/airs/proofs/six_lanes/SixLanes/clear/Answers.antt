use Rattle.std.proofs.Common.{arith}
use Rattle.airs.proofs.SixLanes.{all_silent}
use Rattle.airs.proofs.six_lanes.SixLanes.clear.Goals as goal

pub returns : goal.returns
returns g c = all_silent c.loop-lane.lane-items c.loop-lane.invariant.six (λ s h. c.loop-lane.invariant.silent s (omega arith))
