-- Lists of calls on a floor.
use Rattle.std.specs.Prelude.{◌≡◌, ℕ, min, List, ◌++◌, length, take, drop, Ok, Err, Result}
use Rattle.sites.specs.declared.refusal.Refusal.{Refusal}
use Rattle.theory.specs.Network.{Network, Suspect}
use Rattle.runs.specs.declared.calls.Call.{Call}
use Rattle.runs.specs.State.{State, opened}
use Rattle.runs.specs.Replies.{open_reply}
use Rattle.runs.specs.Runs.{Answer, Entry, Ran, entries, after as left_by, answers as answers_to}
use Rattle.runs.specs.Guarantee.{Guaranteed}

-- Some calls were performed on a floor, one after another, and were answered so; they led from one state to another.
pub record Performed (size : ℕ) (first : State) (calls : List Call) (answers : List Answer) (last : State) : Type 0 where
  pub run : Ran size first (entries calls answers) last
  -- Whatever the floor was opened with, and whatever calls were performed since, be it none: what is guaranteed after every list of
  -- calls on a floor just opened holds of those calls and these together.
  pub guarantee : (rogues bits : ℕ) (before : List Entry) → Suspect first.net rogues → Ran size (opened first.net rogues bits) before first →
      Guaranteed size first.net rogues bits (before ++ entries calls answers) last

-- A floor was opened for a network, some rogues and bits, and then k of some calls were performed, which had room for their answers; old is
-- what stood in that room, and new what stands there now.
pub record RanFromOpen (size : ℕ) (N : Network) (rogues bits : ℕ) (calls : List Call) (old new : List Answer) (last : State) (k : ℕ) : Type 0 where
  pub accepted : open_reply N rogues bits ≡ Ok tt
  pub count : k ≡ min (length calls) (length old)
  pub answers : new ≡ answers_to size (opened N rogues bits) (take k calls) ++ drop k old
  pub after : last ≡ left_by size (opened N rogues bits) (take k calls)
  pub guarantee : Guaranteed size N rogues bits (entries (take k calls) (take k new)) last

-- the same, or the open was refused: then nothing was performed, and all is as it was
abbrev pub OpensAndRuns : ℕ → Network → ℕ → ℕ → List Call → List Answer → List Answer → State → State → Result ℕ Refusal → Type 0
OpensAndRuns size N rogues bits calls old new first last (Ok k) = RanFromOpen size N rogues bits calls old new last k
OpensAndRuns size N rogues bits calls old new first last (Err e) = (open_reply N rogues bits ≡ Err e) × (last ≡ first) × (new ≡ old)
