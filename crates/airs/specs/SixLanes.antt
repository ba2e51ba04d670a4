-- What six lanes side by side mean.
use Rattle.std.specs.Prelude.{ℕ, List, [], ◌∷◌, map}
use Rattle.arrayvec.specs.ArrayVec.{ArrayVec}
use Rattle.airs.specs.declared.six_lanes.SixLanes.{SixLanes}
use Rattle.airs.specs.Lanes.{Lanes, lane}

-- the words of one lane
abbrev pub words_of : ArrayVec ℕ → List ℕ
words_of l = l.items

-- the first six of some lanes
abbrev pub six_of : Lanes → Lanes
six_of ls = lane ls 0 ∷ lane ls 1 ∷ lane ls 2 ∷ lane ls 3 ∷ lane ls 4 ∷ lane ls 5 ∷ []

-- the six lanes
abbrev pub six_lanes : {n : ℕ} → SixLanes n → Lanes
six_lanes l = six_of (map words_of l.lanes)
