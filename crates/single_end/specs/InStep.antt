-- Single ends at all sound sites of a network, driven in step over one air, hold what a floor holds.
use Rattle.std.specs.Prelude.{◌≡◌, ℕ, suc, ◌<◌, ◌≤◌, Bool, true, List, length, Ok}
use Rattle.sites.specs.Sets.{in_set}
use Rattle.theory.specs.Network.{Network, Lawful, Suspect}
use Rattle.theory.specs.Runs.{Sound}
use Rattle.airs.specs.Lanes.{Lanes, lane}
use Rattle.runs.specs.State.{State, opened}
use Rattle.runs.specs.Replies.{held_reply}
use Rattle.runs.specs.Runs.{Entry, Ran, accepted_turns, transmitted}
use Rattle.single_end.specs.Ends.{InRound, Afterwards, Standing, next_round, all_taken, in_round, done, begun, owed_by, taken, book_taken, weighed}

-- where an end stands when it has taken a round and, if that was the last of the phase, weighed by its notebook
abbrev pub weighed_if_due : Network → List ℕ → Afterwards → Standing
weighed_if_due N book (next_round e) = in_round e
weighed_if_due N book (all_taken w) = weighed N w book

-- the bit that an end holds
abbrev pub bit_of : Standing → Bool
bit_of (in_round e) = e.holds
bit_of (done b) = b

-- One turn of the end at v, by which it goes from one standing and notebook to others: what it owes is on the air, and nothing else of v's;
-- then it takes the round and, if that was the last of the phase, weighs.
pub record TurnOf (N : Network) (v : ℕ) (ls : Lanes) (old : Standing) (book : List ℕ) (new : Standing) (new-book : List ℕ) : Type 0 where
  pub state : InRound
  pub stood : old ≡ in_round state
  pub spoke : lane ls v ≡ owed_by N state book
  pub noted : new-book ≡ book_taken N ls state book
  pub went_on : new ≡ weighed_if_due N (book_taken N ls state book) (taken state)

-- Ends at the sound sites, begun with their bits and driven in step for some turns: standing t v and book t v are where the end of v stands
-- and what its notebook has after t turns, and lanes t is what is on the one air when the turn after these is taken.
pub record InStep (N : Network) (rogues bits : ℕ) (standing : ℕ → ℕ → Standing) (book : ℕ → ℕ → List ℕ) (lanes : ℕ → Lanes) (turns : ℕ) : Type 0 where
  pub six : (t : ℕ) → t < turns → length (lanes t) ≡ 6
  pub begin_all : (v : ℕ) → Sound N rogues v → standing 0 v ≡ in_round (begun N v (in_set bits v))
  pub each_turn : (t v : ℕ) → t < turns → Sound N rogues v → TurnOf N v (lanes t) (standing t v) (book t v) (standing (suc t) v) (book (suc t) v)

-- After every list of calls on a floor just opened: ends that were driven in step for as many turns as it accepted, with the words that the
-- rogues were let to transmit in each turn in the rogues' lanes, hold the bits that the floor holds. So it is after each phase.
abbrev pub InStepLaw : Type 0
InStepLaw = (size : ℕ) (N : Network) (rogues bits : ℕ) (entries : List Entry) (floor : State) (standing : ℕ → ℕ → Standing) (book : ℕ → ℕ → List ℕ) (lanes : ℕ → Lanes) →
    120 ≤ size → Lawful N → N.n ≤ 6 → Suspect N rogues → Ran size (opened N rogues bits) entries floor →
    InStep N rogues bits standing book lanes (accepted_turns entries) →
    ((t u : ℕ) → t < accepted_turns entries → u < N.n → in_set rogues u ≡ true → lane (lanes t) u ≡ transmitted entries t u) →
    (v : ℕ) → Sound N rogues v → held_reply floor v ≡ Ok (bit_of (standing (accepted_turns entries) v))
