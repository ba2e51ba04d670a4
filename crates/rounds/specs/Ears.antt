-- Hearing with a remembered position in each lane.
use Rattle.std.specs.Prelude.{◌≡◌, ℕ, ◌+◌, ◌<◌, ◌≤◌, Bool, false, cond, List, length, Some, None, Option, nat_le, slice_index, slice_index_or}
use Rattle.airs.specs.Lanes.{Lanes, lane}
use Rattle.notebooks.specs.Floods.{first_of_two}
use Rattle.tables.specs.declared.expected_path.ExpectedPath.{ExpectedPath}
use Rattle.rounds.specs.declared.ears.Ear.{Ear}
use Rattle.rounds.specs.declared.ears.Ears.{Ears}

-- the flood word noted for a path: the bit is heard in the last site's lane, under the path that led there
abbrev pub note_of : Lanes → ExpectedPath → ℕ
note_of ls e = cond (first_of_two e.front (lane ls e.last)) (e.word + 1) e.word

-- each of the first k words is below a bound
pub record Below (ws : List ℕ) (k bound : ℕ) : Type 0 where
  pub few : k ≤ length ws
  pub low : (j : ℕ) → j < k → slice_index ws j < bound

abbrev pub deaf : Ear
deaf = record { place = 0; above = 0 }

abbrev pub ear_of : Ears → ℕ → Ear
ear_of e u = slice_index_or e.ears u deaf

-- each ear has what it says of its lane
pub record Tuned (ls : Lanes) (e : Ears) : Type 0 where
  pub six : length e.ears ≡ 6
  pub each : (u : ℕ) → u < 6 → Below (lane ls u) (ear_of e u).place (ear_of e u).above

-- whether there is a word that is not below x
abbrev pub stops_at : ℕ → Option ℕ → Bool
stops_at x None = false
stops_at x (Some w) = nat_le x w
