-- Calls on a floor and their answers, as words.
use Rattle.std.specs.Prelude.{ℕ, zero, suc, ◌+◌, ◌*◌, cond, List, [], ◌∷◌, ◌++◌, Some, None, Ok, Err, Option, Result, ◌==◌, slice_index}
use Rattle.sites.specs.Refusals.{number_of}
use Rattle.runs.specs.declared.calls.Call.{Call}
use Rattle.runs.specs.declared.calls.Call.TheVariants.{Transmit, Speak, Turn, Held, Decision, Recalled}
use Rattle.runs.specs.declared.calls.Value.TheVariants.{Count, Bit}
use Rattle.runs.specs.State.{State}
use Rattle.runs.specs.Runs.{Answer, reply, next, after}
use Rattle.hosts.specs.declared.refused.HostRefusal.{HostRefusal}
use Rattle.hosts.specs.Answered.{host_number, site_of}

-- the two words that answer a call
pub record Pair : Type 0 where
  pub number : ℕ
  pub value : ℕ

-- the call that a code, a site and a word name; nothing for another code
abbrev pub call_of : ℕ → ℕ → ℕ → Option Call
call_of code site word =
    cond (code == 1) (Some (Transmit (site_of site) word))
    (cond (code == 2) (Some (Speak (site_of site)))
    (cond (code == 3) (Some Turn)
    (cond (code == 4) (Some (Held (site_of site)))
    (cond (code == 5) (Some (Decision (site_of site)))
    (cond (code == 6) (Some (Recalled (site_of site) word))
    None)))))

-- the call in the k-th three of some words, counted from 0
abbrev pub call_at : List ℕ → ℕ → Option Call
call_at ws k = call_of (slice_index ws (3 * k)) (slice_index ws (3 * k + 1)) (slice_index ws (3 * k + 2))

-- an answer in two words: 0 and the value, or the refusal's number and 0
abbrev pub pair_of : Answer → Pair
pair_of (Ok (Count k)) = record { number = 0; value = k }
pair_of (Ok (Bit b)) = record { number = 0; value = cond b 1 0 }
pair_of (Err e) = record { number = number_of e; value = 0 }

-- so a value, or a refusal that a host gets
abbrev pub pair_in : Result ℕ HostRefusal → Pair
pair_in (Ok k) = record { number = 0; value = k }
pair_in (Err e) = record { number = host_number e; value = 0 }

-- how a floor answers a call; what is none is answered by 100
abbrev pub pair_for : ℕ → State → Option Call → Pair
pair_for size st (Some c) = pair_of (reply size st c)
pair_for size st None = record { number = 100; value = 0 }

-- the state that it leaves; what is no call leaves all as it was
abbrev pub state_for : ℕ → State → Option Call → State
state_for size st (Some c) = next size st c
state_for size st None = st

-- some calls, and one more if there is one
abbrev pub with_call : List Call → Option Call → List Call
with_call cs (Some c) = cs ++ c ∷ []
with_call cs None = cs

-- the calls in the first k threes of some words
abbrev pub calls_in : List ℕ → ℕ → List Call
calls_in ws zero = []
calls_in ws (suc k) = with_call (calls_in ws k) (call_at ws k)

-- the answers to the first k threes: each is answered in the state that the calls before it left
abbrev pub answers_in : ℕ → State → List ℕ → ℕ → List ℕ
answers_in size st ws zero = []
answers_in size st ws (suc k) =
    let x : Pair = pair_for size (after size st (calls_in ws k)) (call_at ws k) in answers_in size st ws k ++ x.number ∷ x.value ∷ []
