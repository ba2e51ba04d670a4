-- A floor's state that follows the algorithm goes on to follow it.
use Rattle.std.proofs.Common.{◌≡◌, ℕ, zero, suc, ◌+◌, ◌-◌, ◌%◌, ◌<◌, ◌≤◌, Bool, true, false, cond, not, ◌&&◌, eqb, ltb, ◌≢◌, List, [], ◌∷◌, ◌++◌, map, length, get_or, Ok, sym, refl, ap, ◌∙◌, subst, ⊎_elim, arith}
use Rattle.std.specs.List.{range_with_len}
use Rattle.std.proofs.lemmas.List.{get_or-set_same, get_or-set_other, get_or_past, length-set}
use Rattle.std.proofs.lemmas.List.FromFn.{get_or-map-range_with_len, length-map-range_with_len}
use Rattle.std.proofs.lemmas.Nat.{div-add-mod'}
use Rattle.std.proofs.lemmas.Bool.{lt-ltb, eq-eqb, ne_eqb, cases_eq, cases_lt, cases_Bool, both_ways, and_from, not_from_false, cond-true, cond-false}
use Rattle.sites.specs.Sets.{in_set}
use Rattle.sites.specs.Lists.{In, front, final}
use Rattle.sites.proofs.Lists.{front_length, final_all}
use Rattle.theory.specs.Network.{Network, Lawful, Way}
use Rattle.theory.specs.Flooding.{Word, Said, first_bit, heard, expected}
use Rattle.theory.specs.Weighing.{weigh}
use Rattle.theory.specs.Runs.{suspect, start, holds, owes, Sound}
use Rattle.theory.proofs.Paths.{expected_are, way_front, way_expected, way_short}
use Rattle.theory.proofs.Past.{weigh_alike}
use Rattle.theory.proofs.Phases.{suspect_is}
use Rattle.theory.proofs.Rounds.{holds_none, holds_inside, holds_across}
use Rattle.airs.specs.Lanes.{lane, silent}
use Rattle.airs.proofs.Puts.{added_own, added_other}
use Rattle.notebooks.specs.Floods.{flood_word, floods, heard_in}
use Rattle.notebooks.specs.Notebooks.{empty_book, shown, note_round, told_by}
use Rattle.notebooks.proofs.Notebooks.{note_same, shown_none, shown_more, shown_tells}
use Rattle.runs.specs.State.{SiteRecord, State, blank, site, is_sound, opened, last_turn, phase, round, phase_noted, rounds_noted}
use Rattle.runs.specs.Replies.{transmit_reply, put, speech, speak_reply, as_spoken, spoken_by, turn_reply, noting, weighed, turned_site, turned}
use Rattle.runs.proofs.Rounds.{phase_after, rounds_after, phase_within, rounds_within}
use Rattle.runs.proofs.Speech.{owed_by_notebook, owes_back}
use Rattle.runs.proofs.Accepted.{transmit_ok, speak_ok, turn_ok, all_spoke_at}

-- what is fixed before the first call: a run of the algorithm on a lawful network of at most six sites
pub record Given (opening : ℕ → Bool) (said : Said) (N : Network) (rogues : ℕ) : Type 0 where
  pub lawful : Lawful N
  pub small : N.n ≤ 6
  pub honest : (t v : ℕ) → Sound N rogues v → said t v ≡ owes N said opening t v

-- what the notebook of v has, after some turns
abbrev pub book_after : Network → Said → ℕ → ℕ → List ℕ
book_after N said turns v = shown N v (rounds_noted N turns) (heard said (start N (phase_noted N turns)))

-- what v has put since the latest turn
abbrev pub put_since : Network → Said → (ℕ → Bool) → ℕ → ℕ → Bool → List ℕ
put_since N said opening turns v spoken = cond spoken (map flood_word (owes N said opening turns v)) []

-- a state that follows the run
pub record Follows (opening : ℕ → Bool) (said : Said) (st : State) : Type 0 where
  pub six_records : length st.records ≡ 6
  pub six_lanes : length st.lanes ≡ 6
  pub within : st.turns ≤ last_turn st.net
  pub bits : (v : ℕ) → Sound st.net st.rogues v → (site st v).holds ≡ holds st.net said opening st.turns v
  pub notes : (v : ℕ) → Sound st.net st.rogues v → (site st v).notebook ≡ book_after st.net said st.turns v
  pub says : (v : ℕ) → Sound st.net st.rogues v → lane st.lanes v ≡ put_since st.net said opening st.turns v (site st v).spoken
  pub others : (s : ℕ) → is_sound st.net st.rogues s ≡ false → site st s ≡ blank

pub sound_is : (N : Network) (rogues v : ℕ) → Sound N rogues v → is_sound N rogues v ≡ true
sound_is N rogues v h = and_from (ltb v N.n) (not (in_set rogues v)) (lt-ltb v N.n h.0) (not_from_false (in_set rogues v) h.1)

pub silent_lane : (s : ℕ) → lane silent s ≡ []
silent_lane zero = refl
silent_lane (suc zero) = refl
silent_lane (suc (suc zero)) = refl
silent_lane (suc (suc (suc zero))) = refl
silent_lane (suc (suc (suc (suc zero)))) = refl
silent_lane (suc (suc (suc (suc (suc zero))))) = refl
silent_lane (suc (suc (suc (suc (suc (suc s)))))) = refl

-- records made by a rule for each of the six sites
by_rule : (g : ℕ → SiteRecord) (s : ℕ) → s < 6 → get_or (map g (range_with_len 0 6)) s blank ≡ g s
by_rule g s l = get_or-map-range_with_len g 0 6 s s blank l (omega arith)

past_six : (g : ℕ → SiteRecord) (s : ℕ) → 6 ≤ s → get_or (map g (range_with_len 0 6)) s blank ≡ blank
past_six g s l = get_or_past (map g (range_with_len 0 6)) s blank (omega (arith, length-map-range_with_len g 0 6))

-- the record of a sound site after a turn
pub turned_at : (st : State) (v : ℕ) → st.net.n ≤ 6 → Sound st.net st.rogues v → site (turned st) v ≡ record { holds = weighed st v; spoken = false; notebook = noting st v }
turned_at st v small h = by_rule (turned_site st) v (omega (arith, h.0)) ∙ cond-true (is_sound st.net st.rogues v) _ (site st v) (sound_is st.net st.rogues v h)

-- ---- a floor just opened

pub opened_at : (N : Network) (rogues bits v : ℕ) → N.n ≤ 6 → Sound N rogues v → site (opened N rogues bits) v ≡ record { holds = is_sound N rogues v && in_set bits v; spoken = false; notebook = empty_book }
opened_at N rogues bits v small h = by_rule (λ s. record { holds = is_sound N rogues s && in_set bits s; spoken = false; notebook = empty_book }) v (omega (arith, h.0))

pub opened_follows : (N : Network) (rogues bits : ℕ) (said : Said) → 2 ≤ N.n → N.n ≤ 6 → Follows (in_set bits) said (opened N rogues bits)
opened_follows N rogues bits said least small = record {
  six_records = length-map-range_with_len first 0 6;
  six_lanes = refl;
  within = omega arith;
  bits = λ v h. ap (λ (x : SiteRecord). x.holds) (opened_at N rogues bits v small h) ∙ ap (λ (b : Bool). b && in_set bits v) (sound_is N rogues v h) ∙ sym (holds_none N said (in_set bits) least v);
  notes = λ v h. ap (λ (x : SiteRecord). x.notebook) (opened_at N rogues bits v small h) ∙ sym (shown_none N v (heard said (start N (phase_noted N 0))));
  says = λ v h. silent_lane v ∙ sym (cond-false (site (opened N rogues bits) v).spoken _ [] (ap (λ (x : SiteRecord). x.spoken) (opened_at N rogues bits v small h)));
  others = λ s e. ⊎_elim
      (λ l. by_rule first s l ∙ ap (λ (b : Bool). record { holds = b && in_set bits s; spoken = false; notebook = empty_book }) e)
      (λ l. past_six first s l)
      (cases_lt s 6);
}
  where
    first : ℕ → SiteRecord
    first = λ s. record { holds = is_sound N rogues s && in_set bits s; spoken = false; notebook = empty_book }

module _ (size : ℕ) (opening : ℕ → Bool) (said : Said) (st : State) (given : Given opening said st.net st.rogues) (inv : Follows opening said st) where
  -- ---- transmit

  pub transmitted_follows : (s w k : ℕ) → transmit_reply size st s ≡ Ok k → Follows opening said (put st s (w ∷ []))
  transmitted_follows s w k e =
      let t = transmit_ok size st s k e in
      record {
        six_records = inv.six_records;
        six_lanes = length-set st.lanes s (lane st.lanes s ++ w ∷ []) ∙ inv.six_lanes;
        within = inv.within;
        bits = inv.bits;
        notes = inv.notes;
        says = λ v h.
            let ne : v ≢ s = λ same. both_ways (in_set st.rogues v) h.1 (ap (λ (x : ℕ). in_set st.rogues x) same ∙ t.1) in
            added_other st.lanes s v (w ∷ []) ne ∙ inv.says v h;
        others = inv.others;
      }

  -- ---- speak

  this_phase : (v : ℕ) → Sound st.net st.rogues v → (st.turns % (st.net.n - 1) ≡ 0 → ⊥) →
      (site st v).notebook ≡ shown st.net v (st.turns % (st.net.n - 1)) (heard said (start st.net (phase st)))
  this_phase v h d =
      inv.notes v h
      ∙ ap (λ (r : ℕ). shown st.net v r (heard said (start st.net (phase_noted st.net st.turns)))) (rounds_within st.net given.lawful.least st.turns d)
      ∙ ap (λ (p : ℕ). shown st.net v (st.turns % (st.net.n - 1)) (heard said (start st.net p))) (phase_within st.net given.lawful.least st.turns d)

  pub speech_is : (v : ℕ) → Sound st.net st.rogues v → speech st v ≡ map flood_word (owes st.net said opening st.turns v)
  unfolding owes holds
  speech_is v h = owed_by_notebook st.net said opening v (phase st) (st.turns % (st.net.n - 1)) (site st v).holds (site st v).notebook (inv.bits v h) (this_phase v h)

  pub spoken_follows : (s k : ℕ) → speak_reply size st s ≡ Ok k → Follows opening said (spoken_by st s)
  spoken_follows s k e =
      let ok = speak_ok size st s k e in
      let below : s < length st.records = omega (arith, ok.0.0, given.small, inv.six_records) in
      let room : s < length st.lanes = omega (arith, ok.0.0, given.small, inv.six_lanes) in
      let next : State = spoken_by st s in
      let here : site next s ≡ as_spoken (site st s) = get_or-set_same st.records s (as_spoken (site st s)) blank below in
      let there : (v : ℕ) → v ≢ s → site next v ≡ site st v = λ v d. get_or-set_other st.records s v (as_spoken (site st s)) blank d in
      record {
        six_records = length-set st.records s (as_spoken (site st s)) ∙ inv.six_records;
        six_lanes = length-set st.lanes s (lane st.lanes s ++ speech st s) ∙ inv.six_lanes;
        within = inv.within;
        bits = λ v h. ⊎_elim
            (λ (q : v ≡ s). subst (λ (x : ℕ). (site next x).holds ≡ holds st.net said opening st.turns x) (sym q) (ap (λ (x : SiteRecord). x.holds) here ∙ inv.bits s ok.0))
            (λ d. ap (λ (x : SiteRecord). x.holds) (there v d) ∙ inv.bits v h)
            (cases_eq v s);
        notes = λ v h. ⊎_elim
            (λ (q : v ≡ s). subst (λ (x : ℕ). (site next x).notebook ≡ book_after st.net said st.turns x) (sym q) (ap (λ (x : SiteRecord). x.notebook) here ∙ inv.notes s ok.0))
            (λ d. ap (λ (x : SiteRecord). x.notebook) (there v d) ∙ inv.notes v h)
            (cases_eq v s);
        says = λ v h. ⊎_elim
            (λ (q : v ≡ s). subst (λ (x : ℕ). lane next.lanes x ≡ put_since st.net said opening st.turns x (site next x).spoken) (sym q)
            (added_own st.lanes s (speech st s) room
            ∙ ap (λ (l : List ℕ). l ++ speech st s) (inv.says s ok.0 ∙ cond-false (site st s).spoken _ [] ok.1)
            ∙ speech_is s ok.0
            ∙ sym (cond-true (site next s).spoken _ [] (ap (λ (x : SiteRecord). x.spoken) here))))
            (λ d. added_other st.lanes s v (speech st s) d ∙ inv.says v h
            ∙ ap (λ (x : SiteRecord). put_since st.net said opening st.turns v x.spoken) (sym (there v d)))
            (cases_eq v s);
        others = λ v f. ⊎_elim
            (λ (q : v ≡ s). absurd (both_ways (is_sound st.net st.rogues v) f (ap (is_sound st.net st.rogues) q ∙ sound_is st.net st.rogues s ok.0)))
            (λ d. there v d ∙ inv.others v f)
            (cases_eq v s);
      }

  -- ---- turn

  module _ (k : ℕ) (ok : turn_reply st ≡ Ok k) (rogue_lanes : (u : ℕ) → u < st.net.n → in_set st.rogues u ≡ true → said st.turns u ≡ floods (lane st.lanes u)) where
    lane_said : (u : ℕ) → u < st.net.n → floods (lane st.lanes u) ≡ said st.turns u
    lane_said u l = ⊎_elim
        (λ e. sym (rogue_lanes u l e))
        (λ e.
        ap floods (inv.says u (l, e) ∙ cond-true (site st u).spoken _ [] (all_spoke_at st u (turn_ok st k ok).1 (l, e)))
        ∙ owes_back st.net said opening u given.small l st.turns
        ∙ sym (given.honest st.turns u (l, e)))
        (cases_Bool (in_set st.rogues u))

    -- what the lanes give for a path is what is heard along it
    lane_heard : (v : ℕ) (q : List ℕ) → In q (expected st.net v (round st)) → heard_in (lane st.lanes) q ≡ heard said (start st.net (phase st)) q
    unfolding heard_in heard
    lane_heard v [] i = let x = expected_are st.net v (round st) [] i in absurd (omega (arith, x.some, x.path.long))
    lane_heard v (a ∷ q) i =
        let x = expected_are st.net v (round st) (a ∷ q) i in
        let long : length (front (a ∷ q)) ≡ length q = front_length (a ∷ q) (length q) refl in
        let e : st.turns ≡ start st.net (phase st) + length (front (a ∷ q)) = omega (arith, x.path.long, div-add-mod' st.turns (st.net.n - 1)) in
        ap (λ (ws : List Word). first_bit ws (front (a ∷ q)))
        (lane_said (final (a ∷ q)) (final_all (λ s. s < st.net.n) a q x.path.sites) ∙ ap (λ (t : ℕ). said t (final (a ∷ q))) e)

    noting_is : (v : ℕ) → Sound st.net st.rogues v → noting st v ≡ shown st.net v (round st) (heard said (start st.net (phase st)))
    unfolding noting
    noting_is v h =
        note_same st.net v (round st) (heard_in (lane st.lanes)) hear book (lane_heard v)
        ∙ ap (note_round st.net v (round st) hear) before
        ∙ shown_more st.net v hear r
      where
        r : ℕ
        r = st.turns % (st.net.n - 1)

        hear : List ℕ → Bool
        hear = heard said (start st.net (phase st))

        book : List ℕ
        book = cond (eqb (round st) 1) empty_book (site st v).notebook

        before : book ≡ shown st.net v r hear
        before = ⊎_elim
            (λ (z : st.turns % (st.net.n - 1) ≡ 0).
            cond-true (eqb (round st) 1) empty_book _ (eq-eqb (round st) 1 (omega arith))
            ∙ sym (shown_none st.net v hear) ∙ ap (λ (j : ℕ). shown st.net v j hear) (sym z))
            (λ z. cond-false (eqb (round st) 1) empty_book (site st v).notebook (ne_eqb (round st) 1 (λ y. z (omega arith))) ∙ this_phase v h z)
            (cases_eq (st.turns % (st.net.n - 1)) 0)

    -- when a phase is over, the notebook tells what was heard along each way
    told_is : (F u v : ℕ) (q : List ℕ) → Sound st.net st.rogues v → round st ≡ st.net.n - 1 → Way st.net F u v q →
        told_by st.net v (noting st v) (front q) ≡ heard said (start st.net (phase st)) (front q)
    told_is F u v q h e t =
        let hear : List ℕ → Bool = heard said (start st.net (phase st)) in
        ap (λ (b : List ℕ). told_by st.net v b (front q)) (noting_is v h ∙ ap (λ (r : ℕ). shown st.net v r hear) e)
        ∙ ap (told_by st.net v (shown st.net v (st.net.n - 1) hear)) (way_front st.net F u v q t)
        ∙ shown_tells st.net v hear (suc (length t.inner)) (u ∷ t.inner) (way_short st.net F u v q t h.0) (way_expected st.net F u v q t)
        ∙ ap hear (sym (way_front st.net F u v q t))

    weighed_is : (v : ℕ) → Sound st.net st.rogues v → weighed st v ≡ holds st.net said opening (st.turns + 1) v
    unfolding weighed
    weighed_is v h =
        let own : Bool = (site st v).holds in
        let F : ℕ = suspect st.net (phase st) in
        let hear : List ℕ → Bool = heard said (start st.net (phase st)) in
        let one : suc st.turns ≡ st.turns + 1 = omega arith in
        ⊎_elim
        (λ (e : round st ≡ st.net.n - 1).
        cond-true (eqb (round st) (st.net.n - 1)) _ own (eq-eqb (round st) (st.net.n - 1) e)
        ∙ weigh_alike st.net given.lawful F v own (suspect_is st.net (phase st)) h.0 (told_by st.net v (noting st v)) hear (λ u q w. told_is F u v q h e w)
        ∙ ap (λ (b : Bool). weigh st.net hear F b v) (inv.bits v h)
        ∙ sym (holds_across st.net said opening given.lawful.least st.turns v e)
        ∙ ap (λ (t : ℕ). holds st.net said opening t v) one)
        (λ e. cond-false (eqb (round st) (st.net.n - 1)) _ own (ne_eqb (round st) (st.net.n - 1) e)
        ∙ inv.bits v h
        ∙ sym (holds_inside st.net said opening given.lawful.least st.turns v e)
        ∙ ap (λ (t : ℕ). holds st.net said opening t v) one)
        (cases_eq (round st) (st.net.n - 1))

    pub turned_follows : Follows opening said (turned st)
    turned_follows = record {
      six_records = length-map-range_with_len (turned_site st) 0 6;
      six_lanes = refl;
      within = omega (arith, (turn_ok st k ok).0);
      bits = λ v h. ap (λ (x : SiteRecord). x.holds) (turned_at st v given.small h) ∙ weighed_is v h;
      notes = λ v h. ap (λ (x : SiteRecord). x.notebook) (turned_at st v given.small h) ∙ noting_is v h
          ∙ ap (λ (r : ℕ). shown st.net v r (heard said (start st.net (phase st)))) (sym (rounds_after st.net st.turns))
          ∙ ap (λ (p : ℕ). shown st.net v (rounds_noted st.net (st.turns + 1)) (heard said (start st.net p))) (sym (phase_after st.net st.turns));
      says = λ v h. silent_lane v ∙ sym (cond-false (site (turned st) v).spoken _ [] (ap (λ (x : SiteRecord). x.spoken) (turned_at st v given.small h)));
      others = λ s e. ⊎_elim
          (λ l. by_rule (turned_site st) s l ∙ cond-false (is_sound st.net st.rogues s) _ (site st s) e ∙ inv.others s e)
          (λ l. past_six (turned_site st) s l)
          (cases_lt s 6);
    }
