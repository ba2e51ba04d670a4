-- All that is guaranteed after a list of calls.
use Rattle.std.proofs.Common.{◌≡◌, ℕ, zero, suc, ◌+◌, ◌-◌, ◌/◌, ◌<◌, ◌≤◌, Bool, true, false, cond, eqb, List, [], ◌++◌, map, length, Some, Ok, Err, sym, refl, ap, ◌∙◌, subst, ⊎_elim, arith}
use Rattle.std.proofs.lemmas.Nat.{le-div}
use Rattle.std.proofs.lemmas.Bool.{eqb-true, eq-eqb, cases_eq, cond-true}
use Rattle.sites.specs.declared.refusal.Refusal.{Refusal}
use Rattle.sites.specs.declared.refusal.Refusal.TheVariants.{LaneFull, Undecided, Unheard}
use Rattle.sites.specs.Sets.{in_set}
use Rattle.theory.specs.Network.{Network, Lawful, Suspect}
use Rattle.theory.specs.Flooding.{Said, heard, expected_up_to}
use Rattle.theory.specs.Runs.{phases, start, held, holds, owes, Sound, Run, Covers}
use Rattle.theory.specs.Laws.{Agree, Stand}
use Rattle.theory.proofs.Agreement.{phase_law, cover_law, settled_law, agreement_law, turns_law}
use Rattle.theory.proofs.Play.{play_rogue, play_sound}
use Rattle.airs.specs.Lanes.{lane, count_of, silent}
use Rattle.notebooks.specs.Floods.{flood_word, flood_in, floods}
use Rattle.notebooks.specs.Notebooks.{pages, shown, listed}
use Rattle.runs.specs.declared.calls.Call.{Call}
use Rattle.runs.specs.State.{SiteRecord, State, blank, site, is_sound, opened, last_turn, phase_noted, rounds_noted}
use Rattle.runs.specs.Replies.{transmit_reply, speak_reply, turn_reply, held_reply, decision_reply, recalled_reply}
use Rattle.runs.specs.Runs.{Entry, after, answers, entries, accepted_turns, has_spoken_from, has_spoken, transmitted}
use Rattle.runs.specs.Guarantee.{said, ByTheAlgorithm, Guaranteed, GuaranteeLaw}
use Rattle.runs.specs.Laws.{RoomLaw}
use Rattle.runs.proofs.Follows.{Given, Follows, silent_lane, opened_at, opened_follows}
use Rattle.runs.proofs.Replies.{held_is, decision_is, recalled_is, book_long, speak_is, never_full, transmit_is, turn_is}
use Rattle.runs.proofs.Runs.{Foretold, Answered, answered_at, Reached, reached, ran_so}

none_yet : (u : ℕ) (b : Bool) → cond b (lane silent u) [] ≡ []
none_yet u true = silent_lane u
none_yet u false = refl

-- a test that lets through
let_through : (b : Bool) (x : Refusal) (c d : Bool) → cond b (Ok c) (Err x) ≡ Ok d → (b ≡ true) × (c ≡ d)
let_through true x c d e = (refl, cc)
let_through false x c d e = absurd (let z : ◌≡◌ {A = ℕ} 0 1 = cc in omega arith)

-- what the calls answer, and what stands in the records and lanes, where the network, the rogues and the accepted turns are these
record Plain (size : ℕ) (opening : ℕ → Bool) (said : Said) (st : State) (N : Network) (rogues turns : ℕ) : Type 0 where
  pub within : turns ≤ last_turn N
  pub held_bit : (v : ℕ) → Sound N rogues v → held_reply st v ≡ Ok (holds N said opening turns v)
  pub decision : (v : ℕ) → Sound N rogues v → decision_reply st v ≡ cond (eqb turns (last_turn N)) (Ok (held N said opening (phases N) v)) (Err Undecided)
  pub recalled : (v w : ℕ) (p : List ℕ) → Sound N rogues v → flood_in w ≡ Some (record { path = p; bit = false }) →
      recalled_reply st v w ≡ cond (listed p (expected_up_to N v (rounds_noted N turns))) (Ok (heard said (start N (phase_noted N turns)) p)) (Err Unheard)
  pub notes : (v : ℕ) → Sound N rogues v → (site st v).notebook ≡ shown N v (rounds_noted N turns) (heard said (start N (phase_noted N turns)))
  pub long : (v : ℕ) → Sound N rogues v → length (site st v).notebook ≡ pages
  pub says : (v : ℕ) → Sound N rogues v → lane st.lanes v ≡ cond (site st v).spoken (map flood_word (owes N said opening turns v)) []
  pub speaks : 120 ≤ size → (v : ℕ) → Sound N rogues v → turns < last_turn N → (site st v).spoken ≡ false → speak_reply size st v ≡ Ok (length (owes N said opening turns v))
  pub turn : turns < last_turn N → ((v : ℕ) → Sound N rogues v → (site st v).spoken ≡ true) → turn_reply st ≡ Ok (turns + 1)
  pub transmits : (u : ℕ) → u < N.n → in_set rogues u ≡ true → turns < last_turn N → count_of st.lanes u < size → transmit_reply size st u ≡ Ok (count_of st.lanes u + 1)
  pub others : (s : ℕ) → is_sound N rogues s ≡ false → site st s ≡ blank
  pub room : 120 ≤ size → (s : ℕ) → speak_reply size st s ≡ Err LaneFull → ⊥

plain : (size : ℕ) (opening : ℕ → Bool) (said : Said) (st : State) → Given opening said st.net st.rogues → Follows opening said st → Plain size opening said st st.net st.rogues st.turns
plain size opening said st given inv = record {
  within = inv.within;
  held_bit = held_is size opening said st given inv;
  decision = decision_is size opening said st given inv;
  recalled = recalled_is size opening said st given inv;
  notes = inv.notes;
  long = book_long size opening said st given inv;
  says = inv.says;
  speaks = speak_is size opening said st given inv;
  turn = turn_is size opening said st given inv;
  transmits = transmit_is size opening said st given inv;
  others = inv.others;
  room = never_full size opening said st given inv;
}

module _ (size : ℕ) (N : Network) (rogues bits : ℕ) (calls : List Call) (lawful : Lawful N) (small : N.n ≤ 6) (few : Suspect N rogues) where
  abbrev all : List Entry
  all = entries calls (answers size (opened N rogues bits) calls)

  abbrev talk : Said
  talk = said N rogues bits (entries calls (answers size (opened N rogues bits) calls))

  abbrev last : State
  last = after size (opened N rogues bits) calls

  abbrev theirs : Said
  theirs = λ t u. floods (transmitted (entries calls (answers size (opened N rogues bits) calls)) t u)

  abbrev turns : ℕ
  turns = accepted_turns (entries calls (answers size (opened N rogues bits) calls))

  given : Given (in_set bits) talk N rogues
  given = record { lawful = lawful; small = small; honest = λ t v h. play_sound N rogues (in_set bits) theirs lawful t v h }

  foretold : Foretold size (in_set bits) talk (opened N rogues bits) all
  foretold t u l b r = play_rogue N rogues (in_set bits) theirs t u r ∙ ap (λ (x : List ℕ). floods (x ++ transmitted all t u)) (sym (none_yet u (eqb 0 t)))

  whole : Reached size (in_set bits) talk (opened N rogues bits) last all
  whole = reached size (in_set bits) talk calls (opened N rogues bits) given (opened_follows N rogues bits talk lawful.least small) foretold

  -- the algorithm's run goes on for any number of turns, whatever the list
  run : (t : ℕ) → Run N rogues (in_set bits) talk t
  run t = record { lawful = lawful; rogue_set = few; honest = λ s v l h. play_sound N rogues (in_set bits) theirs lawful s v h }

  stand : Stand N rogues (in_set bits) talk turns
  stand = turns_law N rogues (in_set bits) talk turns (run turns)

  agree : Agree N rogues (in_set bits) talk
  agree = agreement_law N rogues (in_set bits) talk (last_turn N) (run (last_turn N)) (omega arith)

  -- once settled, the bit stays
  stays : (p : ℕ) → Covers N rogues p → (q v w : ℕ) → p < q → Sound N rogues v → Sound N rogues w → held N talk (in_set bits) q v ≡ held N talk (in_set bits) (suc p) w
  stays p c zero v w l h g = absurd (omega arith)
  stays p c (suc q) v w l h g = ⊎_elim
      (λ (e : q ≡ p).
      ap (λ (x : ℕ). held N talk (in_set bits) (suc x) v) e
      ∙ settled_law N rogues (in_set bits) talk (start N (suc p)) p (suc p) v w (run (start N (suc p))) c (omega arith) (omega arith) h g)
      (λ d.
      let o = phase_law N rogues (in_set bits) talk (start N (suc q)) q v (run (start N (suc q))) (omega arith) h in
      o.2 ∙ stays p c q o.0 w (omega arith) o.1 g)
      (cases_eq q p)

  stays_held : (p : ℕ) → Covers N rogues p → start N (suc p) ≤ turns → (v w : ℕ) → Sound N rogues v → Sound N rogues w → holds N talk (in_set bits) turns v ≡ held N talk (in_set bits) (suc p) w
  unfolding holds
  stays_held p c l v w h g = stays p c (turns / (N.n - 1)) v w (le-div (suc p) turns (N.n - 1) (omega (arith, lawful.least)) l) h g

  count : last.turns ≡ turns
  count = whole.turns ∙ omega arith

  here : Plain size (in_set bits) talk last N rogues turns
  here =
      let a = plain size (in_set bits) talk last
      (subst (λ (x : ℕ). Given (in_set bits) talk last.net x) (sym whole.rogues) (subst (λ (M : Network). Given (in_set bits) talk M rogues) (sym whole.net) given)) whole.follows in
      let b = subst (λ (M : Network). Plain size (in_set bits) talk last M last.rogues last.turns) whole.net a in
      let c = subst (λ (x : ℕ). Plain size (in_set bits) talk last N x last.turns) whole.rogues b in
      subst (λ (x : ℕ). Plain size (in_set bits) talk last N rogues x) count c

  spoke : (v : ℕ) → Sound N rogues v → (site last v).spoken ≡ has_spoken all v
  spoke v h = whole.spoken v h ∙ ap (λ (x : SiteRecord). has_spoken_from x.spoken all v) (opened_at N rogues bits v small h)

  rogue_lane : (u : ℕ) → u < N.n → in_set rogues u ≡ true → lane last.lanes u ≡ transmitted all turns u
  rogue_lane u b r =
      whole.lanes u b r
      ∙ ap (λ (x : List ℕ). x ++ transmitted all last.turns u) (none_yet u (eqb 0 last.turns))
      ∙ ap (λ (t : ℕ). transmitted all t u) count

  decided : (v : ℕ) (b : Bool) → Sound N rogues v → decision_reply last v ≡ Ok b → (turns ≡ last_turn N) × (held N talk (in_set bits) (phases N) v ≡ b)
  decided v b h e =
      let t = let_through (eqb turns (last_turn N)) Undecided (held N talk (in_set bits) (phases N) v) b (sym (here.decision v h) ∙ e) in
      (eqb-true turns (last_turn N) t.0, t.1)

  pub guaranteed : 120 ≤ size → Guaranteed size N rogues bits (entries calls (answers size (opened N rogues bits) calls)) (after size (opened N rogues bits) calls)
  guaranteed wide = record {
    same_decision = λ v w h g.
        here.decision v h
        ∙ ap (λ (b : Bool). cond (eqb turns (last_turn N)) (Ok b) (Err Undecided)) (agree.agreement v w h g)
        ∙ sym (here.decision w g);
    decision_is_a_sound_opening_bit = λ v b h e. let o = agree.origin v h in (o.0, o.1, sym (decided v b h e).1 ∙ o.2);
    decision_follows_the_algorithm = λ v b h e. sym (decided v b h e).1;
    turns_count_up = λ j l. whole.counts j l ∙ omega arith;
    decides_at_the_last_turn = λ v h e. (held N talk (in_set bits) (phases N) v, here.decision v h ∙ cond-true (eqb turns (last_turn N)) _ (Err Undecided) (eq-eqb turns (last_turn N) e));
    decides_only_at_the_last_turn = λ v b h e. (decided v b h e).0;
    no_more_turns_than_the_last = here.within;
    floor_counts_accepted_turns = count;
    same_held_bit_after_a_covering_phase = λ p v w c l h g.
        (holds N talk (in_set bits) turns v, here.held_bit v h, here.held_bit w g ∙ ap (λ (b : Bool). Ok b) (sym (stand.settled p v w c l h g)));
    settled_bit_stays = λ p v w c l h g. here.held_bit v h ∙ ap (λ (b : Bool). Ok b) (stays_held p c l v w h g);
    some_phase_covers = cover_law N rogues few;
    held_follows_the_algorithm = here.held_bit;
    recalled_follows_the_algorithm = here.recalled;
    notebooks_follow_the_algorithm = here.notes;
    speech_follows_the_algorithm = λ v h. here.says v h ∙ ap (λ (b : Bool). cond b (map flood_word (owes N talk (in_set bits) turns v)) []) (spoke v h);
    rogue_lanes_hold_what_was_transmitted = rogue_lane;
    every_answer_follows_the_algorithm = λ before later e is.
        subst (λ (k : ℕ). ByTheAlgorithm N rogues (in_set bits) talk k e.call e.answer) (omega arith)
        (answered_at size (in_set bits) talk N rogues 0 before later e (subst (Answered size (in_set bits) talk N rogues 0) is whole.answered));
    sound_sites_can_speak_once_in_a_round = λ v h l quiet. here.speaks wide v h l (spoke v h ∙ quiet);
    rogues_can_transmit = λ u b r l room.
        let long : count_of last.lanes u ≡ length (transmitted all turns u) = ap length (rogue_lane u b r) in
        here.transmits u b r l (omega arith) ∙ ap (λ (k : ℕ). Ok (k + 1)) long;
    turn_is_accepted_when_all_spoke = λ l h. here.turn l (λ v g. spoke v g ∙ h v g);
    records_tell_who_has_spoken = spoke;
    notebooks_have_all_their_words = here.long;
    other_records_stay_blank = here.others;
  }

pub guarantee_law : GuaranteeLaw
guarantee_law size N rogues bits es floor wide lawful small few r =
    let so = ran_so r in
    subst (λ (st : State). Guaranteed size N rogues bits es st) (sym so.2)
    (subst (λ (l : List Entry). Guaranteed size N rogues bits l (after size (opened N rogues bits) so.0)) (sym so.1) (guaranteed size N rogues bits so.0 lawful small few wide))

pub room_law : RoomLaw
room_law size N rogues bits es floor wide lawful small few r s e =
    let so = ran_so r in
    (here size N rogues bits so.0 lawful small few).room wide s (ap (λ (st : State). speak_reply size st s) (sym so.2) ∙ e)
