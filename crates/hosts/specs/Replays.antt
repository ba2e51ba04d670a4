-- What running a list of calls answers a host, and what it leaves.
use Rattle.std.specs.Prelude.{◌≡◌, ℕ, ◌*◌, ◌/◌, min, List, ◌++◌, length, drop, Ok, Result}
use Rattle.theory.specs.Network.{Network}
use Rattle.runs.specs.State.{State, opened}
use Rattle.runs.specs.Replies.{open_reply}
use Rattle.runs.specs.Runs.{after, answers, entries}
use Rattle.runs.specs.Guarantee.{Guaranteed}
use Rattle.hosts.specs.declared.refused.HostRefusal.{HostRefusal}
use Rattle.hosts.specs.Answered.{answered, left_by, then_by, by_engine}
use Rattle.hosts.specs.Sheets.{checked, sheet_network}
use Rattle.hosts.specs.Calls.{calls_in, answers_in}

-- how many calls are performed: as many as there are whole threes, and whole pairs for their answers
abbrev pub performed : List ℕ → List ℕ → ℕ
performed calls room = min (length calls / 3) (length room / 2)

-- the sheet is refused by 1 to 8, the open by 11 or 12
abbrev pub run_reply : List ℕ → ℕ → ℕ → Result (Unit {0}) HostRefusal
run_reply sheet rogues bits = then_by (checked sheet) (λ _. by_engine (open_reply (sheet_network sheet) rogues bits))

-- the answers of the first k calls on a floor in a state, and behind them what stood there
abbrev pub answers_over : State → List ℕ → ℕ → List ℕ → List ℕ
answers_over st calls k old = answers_in 120 st calls k ++ drop (2 * k) old

-- what is guaranteed of the calls among the first k, and of the floor after them
abbrev pub GuaranteedAfter : Network → ℕ → ℕ → List ℕ → ℕ → Type 0
GuaranteedAfter N rogues bits calls k =
    Guaranteed 120 N rogues bits (entries (calls_in calls k) (answers 120 (opened N rogues bits) (calls_in calls k))) (after 120 (opened N rogues bits) (calls_in calls k))

-- what a host gets: the answer, the answers of the calls and, where nothing is refused, the guarantee before and after each call
pub record Replays (sheet : List ℕ) (rogues bits : ℕ) (calls old new : List ℕ) (answer : ℕ) : Type 0 where
  pub number : answer ≡ answered (run_reply sheet rogues bits)
  pub answers : new ≡ left_by (run_reply sheet rogues bits) (λ _. answers_over (opened (sheet_network sheet) rogues bits) calls (performed calls old) old) old
  pub guarantee : run_reply sheet rogues bits ≡ Ok tt → (k : ℕ) → GuaranteedAfter (sheet_network sheet) rogues bits calls k
