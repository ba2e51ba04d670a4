use Rattle.std.proofs.Common.{◌≡◌, ℕ, ◌-◌, List, length, take}
use Rattle.airs.specs.Lanes.{added}
use Rattle.rounds.specs.Speaking.{Gives}
use Rattle.rounds.proofs.speaking.put_each.Given as goal

abbrev pub invariant-loop-place : goal.invariant-loop-place
invariant-loop-place g l =
    (ws : List ℕ) → length ws ≡ l.fn.places.end - l.fn.places.start → Gives (goal.F-post g l.word) l.fn.places.start ws → g.A.Air.lanes l.air ≡ added (g.A.Air.lanes l.initial.air) l.site (take (l.place - l.fn.places.start) ws)
