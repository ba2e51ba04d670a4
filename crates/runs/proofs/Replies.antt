-- What the calls answer in a state that follows the algorithm.
use Rattle.std.proofs.Common.{◌≡◌, ℕ, ◌+◌, ◌-◌, ◌*◌, ◌/◌, ◌<◌, ◌≤◌, Bool, true, false, cond, not, eqb, ltb, leb, List, [], length, Some, None, Ok, Err, Result, sym, refl, ap, ◌∙◌, ⊎_elim, arith}
use Rattle.std.proofs.lemmas.List.{length-map}
use Rattle.std.proofs.lemmas.Nat.{div-mul-add}
use Rattle.std.proofs.lemmas.Bool.{leb-false, le-leb, lt-leb, le-ltb, eq-eqb, ne_eqb, cases_eq, not_from_true, not_from_false, cond-true, cond-false}
use Rattle.sites.specs.declared.refusal.Refusal.{Refusal}
use Rattle.sites.specs.declared.refusal.Refusal.TheVariants.{NoSite, SoundSite, RogueSite, Over, Spoken, LaneFull, Unspoken, Undecided, Unheard}
use Rattle.sites.specs.Sets.{in_set}
use Rattle.theory.specs.Flooding.{Said, heard, expected_up_to}
use Rattle.theory.specs.Runs.{phases, start, held, holds, owes, Sound}
use Rattle.airs.specs.Lanes.{count_of}
use Rattle.airs.proofs.Puts.{accepted}
use Rattle.notebooks.specs.Floods.{flood_word, flood_in}
use Rattle.notebooks.specs.Notebooks.{pages, listed, noted}
use Rattle.notebooks.proofs.Notebooks.{shown_noted, shown_long, put_few}
use Rattle.runs.specs.declared.calls.Call.{Call}
use Rattle.runs.specs.declared.calls.Call.TheVariants.{Transmit, Speak, Turn, Held, Decision, Recalled}
use Rattle.runs.specs.declared.calls.Value.TheVariants.{Count, Bit}
use Rattle.runs.specs.State.{State, site, last_turn, over, round, phase_noted, rounds_noted}
use Rattle.runs.specs.Replies.{transmit_reply, speech, speak_reply, all_spoke, turn_reply, held_reply, decision_reply, or_unheard, recalled_as, recalled_reply}
use Rattle.runs.specs.Runs.{counted, told, reply}
use Rattle.runs.specs.Guarantee.{ByTheAlgorithm}
use Rattle.runs.proofs.Accepted.{for_sound_is, speak_ok, turn_ok, all_spoke_from}
use Rattle.runs.proofs.Follows.{Given, Follows, speech_is}

or_refused : (b c : Bool) → or_unheard (cond b (Some c) None) ≡ cond b (Ok c) (Err Unheard)
or_refused true c = refl
or_refused false c = refl

told_cond : (b c : Bool) (x : Refusal) → told (cond b (Ok c) (Err x)) ≡ cond b (Ok (Bit c)) (Err x)
told_cond true c x = refl
told_cond false c x = refl

counted_ok : (r : Result ℕ Refusal) (k : ℕ) → counted r ≡ Ok (Count k) → r ≡ Ok k
counted_ok (Ok j) k e = let z : j ≡ k = cc in ap (λ (x : ℕ). Ok x) z
counted_ok (Err x) k e = absurd (let z : ◌≡◌ {A = ℕ} 0 1 = cc in omega arith)

-- a test that refuses with another number was passed
other_refusal : (b : Bool) (x : Refusal) (r : Result ℕ Refusal) → (◌≡◌ {A = Result ℕ Refusal} (Err x) (Err LaneFull) → ⊥) → cond b (Err x) r ≡ Err LaneFull → (b ≡ false) × (r ≡ Err LaneFull)
other_refusal true x r ne e = absurd (ne e)
other_refusal false x r ne e = (refl, e)

module _ (size : ℕ) (opening : ℕ → Bool) (said : Said) (st : State) (given : Given opening said st.net st.rogues) (inv : Follows opening said st) where
  pub held_is : (v : ℕ) → Sound st.net st.rogues v → held_reply st v ≡ Ok (holds st.net said opening st.turns v)
  held_is v h = for_sound_is st v _ h ∙ ap (λ (b : Bool). Ok b) (inv.bits v h)

  -- when the last phase is over a site holds the bit that the last weighing gave
  at_last : (v : ℕ) → st.turns ≡ last_turn st.net → holds st.net said opening st.turns v ≡ held st.net said opening (phases st.net) v
  unfolding holds
  at_last v e =
      let d : st.turns ≡ phases st.net * (st.net.n - 1) + 0 = omega arith in
      ap (λ (p : ℕ). held st.net said opening p v) (ap (λ (x : ℕ). x / (st.net.n - 1)) d ∙ div-mul-add (phases st.net) (st.net.n - 1) 0 (omega (arith, given.lawful.least)))

  pub decision_is : (v : ℕ) → Sound st.net st.rogues v →
      decision_reply st v ≡ cond (eqb st.turns (last_turn st.net)) (Ok (held st.net said opening (phases st.net) v)) (Err Undecided)
  decision_is v h = for_sound_is st v _ h ∙ ⊎_elim
      (λ (e : st.turns ≡ last_turn st.net).
      cond-false (not (over st)) (Err Undecided) _ (not_from_true (over st) (le-leb (last_turn st.net) st.turns (omega arith)))
      ∙ ap (λ (b : Bool). Ok b) (inv.bits v h ∙ at_last v e)
      ∙ sym (cond-true (eqb st.turns (last_turn st.net)) _ (Err Undecided) (eq-eqb st.turns (last_turn st.net) e)))
      (λ e.
      cond-true (not (over st)) (Err Undecided) _ (not_from_false (over st) (lt-leb (last_turn st.net) st.turns (omega (arith, inv.within))))
      ∙ sym (cond-false (eqb st.turns (last_turn st.net)) _ (Err Undecided) (ne_eqb st.turns (last_turn st.net) e)))
      (cases_eq st.turns (last_turn st.net))

  pub recalled_is : (v w : ℕ) (p : List ℕ) → Sound st.net st.rogues v → flood_in w ≡ Some (record { path = p; bit = false }) →
      recalled_reply st v w ≡ cond (listed p (expected_up_to st.net v (rounds_noted st.net st.turns))) (Ok (heard said (start st.net (phase_noted st.net st.turns)) p)) (Err Unheard)
  recalled_is v w p h e =
      ap (recalled_as st v) e
      ∙ for_sound_is st v _ h
      ∙ ap or_unheard
      (ap (λ (b : List ℕ). noted st.net v (rounds_noted st.net st.turns) b p) (inv.notes v h)
      ∙ shown_noted st.net v (rounds_noted st.net st.turns) (heard said (start st.net (phase_noted st.net st.turns))) p)
      ∙ or_refused (listed p (expected_up_to st.net v (rounds_noted st.net st.turns))) (heard said (start st.net (phase_noted st.net st.turns)) p)

  pub book_long : (v : ℕ) → Sound st.net st.rogues v → length (site st v).notebook ≡ pages
  book_long v h = ap length (inv.notes v h) ∙ shown_long st.net v (rounds_noted st.net st.turns) (heard said (start st.net (phase_noted st.net st.turns))) given.small h.0

  count_is : (v : ℕ) → Sound st.net st.rogues v → length (speech st v) ≡ length (owes st.net said opening st.turns v)
  count_is v h = ap length (speech_is size opening said st given inv v h) ∙ length-map (owes st.net said opening st.turns v) flood_word

  -- a lane of the least size can take what a site owes that has not spoken
  has_room : 120 ≤ size → (v : ℕ) → Sound st.net st.rogues v → (site st v).spoken ≡ false → ltb size (count_of st.lanes v + length (speech st v)) ≡ false
  has_room wide v h quiet =
      let none : count_of st.lanes v ≡ 0 = ap length (inv.says v h ∙ cond-false (site st v).spoken _ [] quiet) in
      le-ltb size (count_of st.lanes v + length (speech st v)) (omega (arith, put_few st.net v (round st) (site st v).holds (site st v).notebook given.small h.0))

  pub speak_is : 120 ≤ size → (v : ℕ) → Sound st.net st.rogues v → st.turns < last_turn st.net → (site st v).spoken ≡ false →
      speak_reply size st v ≡ Ok (length (owes st.net said opening st.turns v))
  speak_is wide v h l quiet =
      for_sound_is st v _ h
      ∙ cond-false (over st) (Err Over) _ (lt-leb (last_turn st.net) st.turns l)
      ∙ cond-false (site st v).spoken (Err Spoken) _ quiet
      ∙ cond-false _ (Err LaneFull) _ (has_room wide v h quiet)
      ∙ ap (λ (k : ℕ). Ok k) (count_is v h)

  pub never_full : 120 ≤ size → (s : ℕ) → speak_reply size st s ≡ Err LaneFull → ⊥
  never_full wide s e =
      let a = other_refusal (leb st.net.n s) NoSite _ (λ z. let y : ◌≡◌ {A = ℕ} 0 1 = cc in omega arith) e in
      let b = other_refusal (in_set st.rogues s) RogueSite _ (λ z. let y : ◌≡◌ {A = ℕ} 0 1 = cc in omega arith) a.1 in
      let c = other_refusal (over st) Over _ (λ z. let y : ◌≡◌ {A = ℕ} 0 1 = cc in omega arith) b.1 in
      let d = other_refusal (site st s).spoken Spoken _ (λ z. let y : ◌≡◌ {A = ℕ} 0 1 = cc in omega arith) c.1 in
      let h : Sound st.net st.rogues s = (leb-false st.net.n s a.0, b.0) in
      let f : Ok (length (speech st s)) ≡ Err LaneFull = sym (cond-false _ (Err LaneFull) (Ok (length (speech st s))) (has_room wide s h d.0)) ∙ d.1 in
      let y : ◌≡◌ {A = ℕ} 0 1 = cc in omega arith

  pub transmit_is : (u : ℕ) → u < st.net.n → in_set st.rogues u ≡ true → st.turns < last_turn st.net → count_of st.lanes u < size → transmit_reply size st u ≡ Ok (count_of st.lanes u + 1)
  transmit_is u b r l room =
      cond-false (leb st.net.n u) (Err NoSite) _ (lt-leb st.net.n u b)
      ∙ cond-false (not (in_set st.rogues u)) (Err SoundSite) _ (not_from_true (in_set st.rogues u) r)
      ∙ cond-false (over st) (Err Over) _ (lt-leb (last_turn st.net) st.turns l)
      ∙ accepted size st.lanes u (omega (arith, given.small)) room

  pub turn_is : st.turns < last_turn st.net → ((v : ℕ) → Sound st.net st.rogues v → (site st v).spoken ≡ true) → turn_reply st ≡ Ok (st.turns + 1)
  turn_is l spoke =
      cond-false (over st) (Err Over) _ (lt-leb (last_turn st.net) st.turns l)
      ∙ cond-false (not (all_spoke st)) (Err Unspoken) _ (not_from_true (all_spoke st) (all_spoke_from st spoke))

  -- each call is answered by the algorithm
  pub answer_is : (c : Call) → ByTheAlgorithm st.net st.rogues opening said st.turns c (reply size st c)
  answer_is (Transmit s w) = tt
  answer_is (Speak v) = λ k e.
      let ok = speak_ok size st v k (counted_ok (speak_reply size st v) k e) in
      ok.2 ∙ count_is v ok.0
  answer_is Turn = λ k e. (turn_ok st k (counted_ok (turn_reply st) k e)).2
  answer_is (Held v) = λ h. ap told (held_is v h)
  answer_is (Decision v) = λ h. ap told (decision_is v h) ∙ told_cond (eqb st.turns (last_turn st.net)) (held st.net said opening (phases st.net) v) Undecided
  answer_is (Recalled v w) = λ h p e.
      ap told (recalled_is v w p h e)
      ∙ told_cond (listed p (expected_up_to st.net v (rounds_noted st.net st.turns))) (heard said (start st.net (phase_noted st.net st.turns)) p) Unheard
