-- Runs on the triangle, where site 0 opens with 0, site 1 with 1 and site 2 is rogue, and on the pair with bits 0 and 1.
use Rattle.std.specs.Prelude.{◌≡◌, ℕ, zero, suc, true, false, List, [], ◌∷◌, Ok, Err}
use Rattle.sites.specs.declared.refusal.Refusal.TheVariants.{Over, Undecided}
use Rattle.theory.specs.Examples.{triangle, pair}
use Rattle.runs.specs.declared.calls.Call.{Call}
use Rattle.runs.specs.declared.calls.Call.TheVariants.{Transmit, Speak, Turn}
use Rattle.runs.specs.State.{State, opened}
use Rattle.runs.specs.Replies.{turn_reply, held_reply, decision_reply}
use Rattle.runs.specs.Runs.{after}

-- sites 0 and 1 speak and a turn is taken, so many times
abbrev pub rounds : ℕ → List Call
rounds zero = []
rounds (suc k) = Speak 0 ∷ Speak 1 ∷ Turn ∷ rounds k

abbrev pub on_triangle : List Call → State
on_triangle cs = after 120 (opened triangle 0b100 0b010) cs

-- the rogue transmits that it holds 1, and nothing later
abbrev pub one_flooded : ℕ → State
one_flooded turns = on_triangle (Transmit 2 0x10000001 ∷ rounds turns)

-- it transmits 0 and then 1
abbrev pub zero_then_one : ℕ → State
zero_then_one turns = on_triangle (Transmit 2 0x10000000 ∷ Transmit 2 0x10000001 ∷ rounds turns)

abbrev pub on_pair : ℕ → State
on_pair turns = after 120 (opened pair 0 0b10) (rounds turns)

pub record Examples : Type 0 where
  -- after the first phase both sound sites hold 1, and turn 8 decides 1; not turn 7, and there is no ninth
  pub one_held : (held_reply (one_flooded 2) 0 ≡ Ok true) × (held_reply (one_flooded 2) 1 ≡ Ok true)
  pub turn_eight_decides : (decision_reply (one_flooded 8) 0 ≡ Ok true) × (decision_reply (one_flooded 8) 1 ≡ Ok true)
  pub not_turn_seven : decision_reply (one_flooded 7) 0 ≡ Err Undecided
  pub no_ninth_turn : turn_reply (one_flooded 8) ≡ Err Over
  -- the first word counts: both hold 0
  pub zero_held : (held_reply (zero_then_one 2) 0 ≡ Ok false) × (held_reply (zero_then_one 2) 1 ≡ Ok false)
  -- one turn decides the pair
  pub pair_decides : (decision_reply (on_pair 1) 0 ≡ Ok true) × (decision_reply (on_pair 1) 1 ≡ Ok true)
