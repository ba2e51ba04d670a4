-- What holds after every list of calls on a floor just opened.
use Rattle.std.specs.Prelude.{◌≡◌, ℕ, suc, ◌+◌, ◌<◌, ◌≤◌, Bool, true, false, cond, List, [], ◌∷◌, ◌++◌, map, length, Some, Ok, Err, ◌==◌, slice_index}
use Rattle.sites.specs.declared.refusal.Refusal.TheVariants.{Undecided, Unheard}
use Rattle.sites.specs.Sets.{in_set}
use Rattle.theory.specs.Network.{Network, Lawful, Suspect}
use Rattle.theory.specs.Flooding.{Said, heard, expected_up_to}
use Rattle.theory.specs.Runs.{phases, start, held, holds, owes, Sound, Covers, play}
use Rattle.airs.specs.Lanes.{lane}
use Rattle.notebooks.specs.Floods.{flood_word, flood_in, floods}
use Rattle.notebooks.specs.Notebooks.{pages, shown, listed}
use Rattle.runs.specs.declared.calls.Call.{Call}
use Rattle.runs.specs.declared.calls.Call.TheVariants.{Transmit, Speak, Turn, Held, Decision, Recalled}
use Rattle.runs.specs.declared.calls.Value.TheVariants.{Count, Bit}
use Rattle.runs.specs.State.{State, blank, site, is_sound, opened, last_turn, phase_noted, rounds_noted}
use Rattle.runs.specs.Replies.{transmit_reply, speak_reply, turn_reply, held_reply, decision_reply, recalled_reply}
use Rattle.runs.specs.Runs.{Answer, Entry, Ran, turn_answers, accepted_turns, has_spoken, transmitted}

-- the algorithm's run on the words that the rogues were let to transmit: what each site said in each turn
abbrev pub said : Network → ℕ → ℕ → List Entry → Said
said N rogues bits entries = play N rogues (in_set bits) (λ t u. floods (transmitted entries t u))

-- that a call's answer is the algorithm's, where some turns were accepted before it; of calls for rogues and for other numbers nothing is said here
abbrev pub ByTheAlgorithm : Network → ℕ → (ℕ → Bool) → Said → ℕ → Call → Answer → Type 0
ByTheAlgorithm N rogues opening said turns (Transmit s w) a = Unit {0}
ByTheAlgorithm N rogues opening said turns (Speak v) a = (k : ℕ) → a ≡ Ok (Count k) → k ≡ length (owes N said opening turns v)
ByTheAlgorithm N rogues opening said turns Turn a = (k : ℕ) → a ≡ Ok (Count k) → k ≡ turns + 1
ByTheAlgorithm N rogues opening said turns (Held v) a = Sound N rogues v → a ≡ Ok (Bit (holds N said opening turns v))
ByTheAlgorithm N rogues opening said turns (Decision v) a = Sound N rogues v → a ≡ cond (turns == last_turn N) (Ok (Bit (held N said opening (phases N) v))) (Err Undecided)
ByTheAlgorithm N rogues opening said turns (Recalled v w) a = Sound N rogues v → (p : List ℕ) → flood_in w ≡ Some (record { path = p; bit = false }) →
    a ≡ cond (listed p (expected_up_to N v (rounds_noted N turns))) (Ok (Bit (heard said (start N (phase_noted N turns)) p))) (Err Unheard)

-- what holds of some calls, with their answers, and of the floor after them
pub record Guaranteed (size : ℕ) (N : Network) (rogues bits : ℕ) (entries : List Entry) (floor : State) : Type 0 where
  -- ---- agreement and origin
  pub same_decision : (v w : ℕ) → Sound N rogues v → Sound N rogues w → decision_reply floor v ≡ decision_reply floor w
  pub decision_is_a_sound_opening_bit : (v : ℕ) (b : Bool) → Sound N rogues v → decision_reply floor v ≡ Ok b →
      (u : ℕ) × Sound N rogues u × (b ≡ in_set bits u)
  pub decision_follows_the_algorithm : (v : ℕ) (b : Bool) → Sound N rogues v → decision_reply floor v ≡ Ok b →
      b ≡ held N (said N rogues bits entries) (in_set bits) (phases N) v
  -- ---- turns
  pub turns_count_up : (j : ℕ) → j < accepted_turns entries → slice_index (turn_answers entries) j ≡ j + 1
  pub decides_at_the_last_turn : (v : ℕ) → Sound N rogues v → accepted_turns entries ≡ last_turn N → (b : Bool) × (decision_reply floor v ≡ Ok b)
  pub decides_only_at_the_last_turn : (v : ℕ) (b : Bool) → Sound N rogues v → decision_reply floor v ≡ Ok b → accepted_turns entries ≡ last_turn N
  pub no_more_turns_than_the_last : accepted_turns entries ≤ last_turn N
  pub floor_counts_accepted_turns : floor.turns ≡ accepted_turns entries
  -- ---- settled from the end of a phase whose suspect set holds every rogue; there is such a phase
  pub same_held_bit_after_a_covering_phase : (p v w : ℕ) → Covers N rogues p → start N (suc p) ≤ accepted_turns entries →
      Sound N rogues v → Sound N rogues w → (b : Bool) × (held_reply floor v ≡ Ok b) × (held_reply floor w ≡ Ok b)
  -- it is the bit that any sound site w held at the end of that phase
  pub settled_bit_stays : (p v w : ℕ) → Covers N rogues p → start N (suc p) ≤ accepted_turns entries → Sound N rogues v → Sound N rogues w →
      held_reply floor v ≡ Ok (held N (said N rogues bits entries) (in_set bits) (suc p) w)
  pub some_phase_covers : (p : ℕ) × (p < phases N) × Covers N rogues p
  -- ---- the algorithm's run, and no other
  pub held_follows_the_algorithm : (v : ℕ) → Sound N rogues v →
      held_reply floor v ≡ Ok (holds N (said N rogues bits entries) (in_set bits) (accepted_turns entries) v)
  pub recalled_follows_the_algorithm : (v w : ℕ) (p : List ℕ) → Sound N rogues v → flood_in w ≡ Some (record { path = p; bit = false }) →
      recalled_reply floor v w ≡ cond (listed p (expected_up_to N v (rounds_noted N (accepted_turns entries))))
      (Ok (heard (said N rogues bits entries) (start N (phase_noted N (accepted_turns entries))) p)) (Err Unheard)
  pub notebooks_follow_the_algorithm : (v : ℕ) → Sound N rogues v →
      (site floor v).notebook ≡ shown N v (rounds_noted N (accepted_turns entries)) (heard (said N rogues bits entries) (start N (phase_noted N (accepted_turns entries))))
  pub speech_follows_the_algorithm : (v : ℕ) → Sound N rogues v →
      lane floor.lanes v ≡ cond (has_spoken entries v) (map flood_word (owes N (said N rogues bits entries) (in_set bits) (accepted_turns entries) v)) []
  pub rogue_lanes_hold_what_was_transmitted : (u : ℕ) → u < N.n → in_set rogues u ≡ true → lane floor.lanes u ≡ transmitted entries (accepted_turns entries) u
  pub every_answer_follows_the_algorithm : (before later : List Entry) (e : Entry) → entries ≡ before ++ e ∷ later →
      ByTheAlgorithm N rogues (in_set bits) (said N rogues bits entries) (accepted_turns before) e.call e.answer
  -- ---- the floor goes on: it takes what the rules let it take
  pub sound_sites_can_speak_once_in_a_round : (v : ℕ) → Sound N rogues v → accepted_turns entries < last_turn N → has_spoken entries v ≡ false →
      speak_reply size floor v ≡ Ok (length (owes N (said N rogues bits entries) (in_set bits) (accepted_turns entries) v))
  pub rogues_can_transmit : (u : ℕ) → u < N.n → in_set rogues u ≡ true → accepted_turns entries < last_turn N → length (transmitted entries (accepted_turns entries) u) < size →
      transmit_reply size floor u ≡ Ok (length (transmitted entries (accepted_turns entries) u) + 1)
  pub turn_is_accepted_when_all_spoke : accepted_turns entries < last_turn N → ((v : ℕ) → Sound N rogues v → has_spoken entries v ≡ true) →
      turn_reply floor ≡ Ok (accepted_turns entries + 1)
  -- ---- what else stands in the records
  pub records_tell_who_has_spoken : (v : ℕ) → Sound N rogues v → (site floor v).spoken ≡ has_spoken entries v
  pub notebooks_have_all_their_words : (v : ℕ) → Sound N rogues v → length (site floor v).notebook ≡ pages
  pub other_records_stay_blank : (s : ℕ) → is_sound N rogues s ≡ false → site floor s ≡ blank

-- whatever the calls, their arguments and their order, over any lawful network of at most six sites, for any rogues, opening bits and lane size that the rules allow
abbrev pub GuaranteeLaw : Type 0
GuaranteeLaw = (size : ℕ) (N : Network) (rogues bits : ℕ) (entries : List Entry) (floor : State) →
    120 ≤ size → Lawful N → N.n ≤ 6 → Suspect N rogues → Ran size (opened N rogues bits) entries floor → Guaranteed size N rogues bits entries floor
