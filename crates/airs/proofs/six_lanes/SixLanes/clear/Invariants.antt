use Rattle.std.proofs.Common.{◌≡◌, ℕ, ◌<◌, [], length, get_or}
use Rattle.airs.proofs.six_lanes.SixLanes.clear.Given as goal

abbrev pub invariant-loop-lane : goal.invariant-loop-lane
invariant-loop-lane g l = record {
  six : length l.lane-items ≡ 6;
  silent : (s : ℕ) → s < l.lane-index → get_or l.lane-items s (record { items = [] }) ≡ record { items = [] };
}
