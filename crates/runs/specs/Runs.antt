-- Lists of calls on a floor, and what can be read off the calls and their answers alone.
use Rattle.std.specs.Prelude.{◌≡◌, ℕ, ◌+◌, Bool, false, cond, ◌||◌, List, [], ◌∷◌, ◌++◌, length, Ok, Err, Result, ◌==◌}
use Rattle.sites.specs.declared.refusal.Refusal.{Refusal}
use Rattle.runs.specs.declared.calls.Call.{Call}
use Rattle.runs.specs.declared.calls.Call.TheVariants.{Transmit, Speak, Turn, Held, Decision, Recalled}
use Rattle.runs.specs.declared.calls.Value.{Value}
use Rattle.runs.specs.declared.calls.Value.TheVariants.{Count, Bit}
use Rattle.runs.specs.State.{State}
use Rattle.runs.specs.Replies.{transmit_reply, transmit_next, speak_reply, speak_next, turn_reply, turn_next, held_reply, decision_reply, recalled_reply}

-- ---- one call

-- what a call answers
abbrev pub Answer : Type 0
Answer = Result Value Refusal

abbrev pub counted : Result ℕ Refusal → Answer
counted (Ok k) = Ok (Count k)
counted (Err e) = Err e

abbrev pub told : Result Bool Refusal → Answer
told (Ok b) = Ok (Bit b)
told (Err e) = Err e

-- what a call answers
abbrev pub reply : ℕ → State → Call → Answer
reply size st (Transmit s w) = counted (transmit_reply size st s)
reply size st (Speak s) = counted (speak_reply size st s)
reply size st Turn = counted (turn_reply st)
reply size st (Held s) = told (held_reply st s)
reply size st (Decision s) = told (decision_reply st s)
reply size st (Recalled s w) = told (recalled_reply st s w)

-- what it leaves
abbrev pub next : ℕ → State → Call → State
next size st (Transmit s w) = transmit_next size st s w
next size st (Speak s) = speak_next size st s
next size st Turn = turn_next st
next size st (Held s) = st
next size st (Decision s) = st
next size st (Recalled s w) = st

-- ---- a list of calls

-- a call and its answer
pub record Entry : Type 0 where
  pub call : Call
  pub answer : Answer

-- calls with their answers, one after another; each is answered in the state that those before it left
pub data Ran (size : ℕ) : State → List Entry → State → Type 0 where
  none : {st : State} → Ran size st [] st
  more : {st mid last : State} {c : Call} {a : Answer} {es : List Entry} → a ≡ reply size st c → mid ≡ next size st c → Ran size mid es last →
      Ran size st (record { call = c; answer = a } ∷ es) last

-- what is left by some calls, and what they answer
abbrev pub after : ℕ → State → List Call → State
after size st [] = st
after size st (c ∷ cs) = after size (next size st c) cs

abbrev pub answers : ℕ → State → List Call → List Answer
answers size st [] = []
answers size st (c ∷ cs) = reply size st c ∷ answers size (next size st c) cs

-- some calls, each with its answer
abbrev pub entries : List Call → List Answer → List Entry
entries [] rs = []
entries (c ∷ cs) [] = []
entries (c ∷ cs) (a ∷ rs) = record { call = c; answer = a } ∷ entries cs rs

-- ---- read off the calls and their answers

-- the number that a turn answered, if it was accepted
abbrev pub turn_answer : Call → Answer → List ℕ
turn_answer (Transmit s w) a = []
turn_answer (Speak s) a = []
turn_answer Turn (Ok (Count k)) = k ∷ []
turn_answer Turn (Ok (Bit b)) = []
turn_answer Turn (Err e) = []
turn_answer (Held s) a = []
turn_answer (Decision s) a = []
turn_answer (Recalled s w) a = []

-- what the accepted turns answered, in their order
abbrev pub turn_answers : List Entry → List ℕ
turn_answers [] = []
turn_answers (e ∷ es) = turn_answer e.call e.answer ++ turn_answers es

abbrev pub accepted_turns : List Entry → ℕ
accepted_turns es = length (turn_answers es)

-- whether v has spoken in this round after a call, where before tells whether it had before the call: an accepted turn begins another round
abbrev pub spoke_then : ℕ → Bool → Call → Answer → Bool
spoke_then v before (Transmit s w) a = before
spoke_then v before (Speak s) (Ok (Count k)) = s == v || before
spoke_then v before (Speak s) (Ok (Bit b)) = before
spoke_then v before (Speak s) (Err e) = before
spoke_then v before Turn (Ok (Count k)) = false
spoke_then v before Turn (Ok (Bit b)) = before
spoke_then v before Turn (Err e) = before
spoke_then v before (Held s) a = before
spoke_then v before (Decision s) a = before
spoke_then v before (Recalled s w) a = before

abbrev pub has_spoken_from : Bool → List Entry → ℕ → Bool
has_spoken_from before [] v = before
has_spoken_from before (e ∷ es) v = has_spoken_from (spoke_then v before e.call e.answer) es v

-- whether v was let to speak since the latest accepted turn
abbrev pub has_spoken : List Entry → ℕ → Bool
has_spoken es v = has_spoken_from false es v

-- the word that a call was let to put for site u
abbrev pub let_put : ℕ → Call → Answer → List ℕ
let_put u (Transmit s w) (Ok (Count k)) = cond (s == u) (w ∷ []) []
let_put u (Transmit s w) (Ok (Bit b)) = []
let_put u (Transmit s w) (Err e) = []
let_put u (Speak s) a = []
let_put u Turn a = []
let_put u (Held s) a = []
let_put u (Decision s) a = []
let_put u (Recalled s w) a = []

-- the words that u was let to transmit after exactly t accepted turns, where k turns came before the list
unfoldable pub transmitted_from : ℕ → List Entry → ℕ → ℕ → List ℕ
transmitted_from k [] t u = []
transmitted_from k (e ∷ es) t u =
    cond (k == t) (let_put u e.call e.answer) [] ++ transmitted_from (k + length (turn_answer e.call e.answer)) es t u

-- the words that u was let to transmit between the t-th accepted turn and the next, counted from 0
abbrev pub transmitted : List Entry → ℕ → ℕ → List ℕ
transmitted es t u = transmitted_from 0 es t u
