-- Ends that are driven in step follow the algorithm as a floor does: what they keep is what the records of a floor would keep.
use Rattle.std.proofs.Common.{◌≡◌, ℕ, zero, suc, ◌+◌, ◌-◌, ◌*◌, ◌/◌, ◌%◌, ◌<◌, ◌≤◌, Bool, true, false, cond, not, eqb, ltb, leb, List, map, length, Ok, Err, sym, refl, ap, ◌∙◌, ⊎_elim, mul-le-mul_right, arith}
use native.Mathlib.Nat.{zero-mod, zero-div}
use Rattle.std.specs.List.{range_with_len}
use Rattle.std.proofs.lemmas.List.{get_or_past}
use Rattle.std.proofs.lemmas.List.FromFn.{get_or-map-range_with_len, length-map-range_with_len}
use Rattle.std.proofs.lemmas.Nat.{mod_below}
use Rattle.std.proofs.lemmas.Bool.{lt-ltb, lt-leb, le-ltb, eq-eqb, ne_eqb, cases_eq, cases_lt, cond-true, cond-false}
use Rattle.sites.specs.declared.refusal.Refusal.TheVariants.{Unspoken}
use Rattle.sites.specs.Sets.{in_set}
use Rattle.theory.specs.Network.{Network}
use Rattle.theory.specs.Flooding.{Said, heard}
use Rattle.theory.specs.Weighing.{weigh}
use Rattle.theory.specs.Runs.{phases, suspect, start, holds, owes, Sound, play}
use Rattle.theory.proofs.Rounds.{inside, across, holds_none}
use Rattle.theory.proofs.Play.{play_rogue, play_sound}
use Rattle.airs.specs.Lanes.{Lanes, lane, silent}
use Rattle.notebooks.specs.Floods.{flood_word, floods, heard_in}
use Rattle.notebooks.specs.Notebooks.{empty_book, shown, note_round, take_round, owed_words, owed_by_bits, told_by}
use Rattle.notebooks.proofs.Notebooks.{shown_none}
use Rattle.notebooks.proofs.Bits.{owed_alike}
use Rattle.runs.specs.State.{State, SiteRecord, blank, site, is_sound, last_turn, phase_noted}
use Rattle.runs.specs.Replies.{turn_reply, turned, noting, weighed as bit_after}
use Rattle.runs.specs.Runs.{accepted_turns, transmitted}
use Rattle.runs.proofs.Rounds.{phase_within, rounds_within}
use Rattle.runs.proofs.Accepted.{all_spoke_from}
use Rattle.runs.proofs.Follows.{Given, Follows, book_after, put_since, sound_is, silent_lane, turned_at, speech_is, turned_follows}
use Rattle.runs.proofs.Guarantee.{guarantee_law}
use Rattle.single_end.specs.Ends.{InRound, InWeighing, Standing, in_round, done, next_round, all_taken, begun, owed_by, taken, book_taken, gone_on, bit_weighed}
use Rattle.single_end.specs.InStep.{weighed_if_due, bit_of, TurnOf, InStep, InStepLaw}
use Rattle.single_end.proofs.Steps.{not_last, last_of_phase}

-- in round 1 the notebook does not count
owed_first : (N : Network) (v r : ℕ) (held : Bool) (a b : List ℕ) → r ≡ 1 → owed_by_bits N v r held a ≡ owed_by_bits N v r held b
unfolding owed_by_bits
owed_first N v r held a b e =
    cond-true (eqb r 1) _ _ (eq-eqb r 1 e) ∙ sym (cond-true (eqb r 1) _ _ (eq-eqb r 1 e))

took_first : (N : Network) (v r : ℕ) (hear : List ℕ → Bool) (a b : List ℕ) → r ≡ 1 → take_round N v r hear a ≡ take_round N v r hear b
took_first N v r hear a b e =
    ap (note_round N v r hear) (cond-true (eqb r 1) empty_book a (eq-eqb r 1 e))
    ∙ sym (ap (note_round N v r hear) (cond-true (eqb r 1) empty_book b (eq-eqb r 1 e)))

module _ (size : ℕ) (N : Network) (rogues bits : ℕ) (said : Said) (given : Given (in_set bits) said N rogues) where
  abbrev m : ℕ
  m = N.n - 1

  abbrev opening : ℕ → Bool
  opening = in_set bits

  some : 0 < m
  some = omega (arith, given.lawful.least)

  -- ---- a floor whose records hold what the ends hold

  abbrev record_of : Bool → (ℕ → Bool) → (ℕ → List ℕ) → ℕ → SiteRecord
  record_of spoken hold book s = cond (is_sound N rogues s) (record { holds = hold s; spoken = spoken; notebook = book s }) blank

  abbrev floor_of : Bool → (ℕ → Bool) → (ℕ → List ℕ) → Lanes → ℕ → State
  floor_of spoken hold book ls t = record { net = N; rogues = rogues; records = map (record_of spoken hold book) (range_with_len 0 6); lanes = ls; turns = t }

  at_sound : (spoken : Bool) (hold : ℕ → Bool) (book : ℕ → List ℕ) (ls : Lanes) (t v : ℕ) → Sound N rogues v →
      site (floor_of spoken hold book ls t) v ≡ record { holds = hold v; spoken = spoken; notebook = book v }
  at_sound spoken hold book ls t v h =
      get_or-map-range_with_len (record_of spoken hold book) 0 6 v v blank (omega (arith, h.0, given.small)) (omega arith)
      ∙ cond-true (is_sound N rogues v) _ blank (sound_is N rogues v h)

  follows_as : (spoken : Bool) (hold : ℕ → Bool) (book : ℕ → List ℕ) (ls : Lanes) (t : ℕ) → length ls ≡ 6 → t ≤ last_turn N →
      ((v : ℕ) → Sound N rogues v → hold v ≡ holds N said opening t v) → ((v : ℕ) → Sound N rogues v → book v ≡ book_after N said t v) →
      ((v : ℕ) → Sound N rogues v → lane ls v ≡ put_since N said opening t v spoken) → Follows opening said (floor_of spoken hold book ls t)
  follows_as spoken hold book ls t six within bit note says = record {
    six_records = length-map-range_with_len (record_of spoken hold book) 0 6;
    six_lanes = six;
    within = within;
    bits = λ v h. ap (λ (x : SiteRecord). x.holds) (at_sound spoken hold book ls t v h) ∙ bit v h;
    notes = λ v h. ap (λ (x : SiteRecord). x.notebook) (at_sound spoken hold book ls t v h) ∙ note v h;
    says = λ v h. says v h ∙ ap (λ (x : SiteRecord). put_since N said opening t v x.spoken) (sym (at_sound spoken hold book ls t v h));
    others = λ s e. ⊎_elim
        (λ (l : s < 6). get_or-map-range_with_len (record_of spoken hold book) 0 6 s s blank l (omega arith) ∙ cond-false (is_sound N rogues s) _ blank e)
        (λ l. get_or_past (map (record_of spoken hold book) (range_with_len 0 6)) s blank (omega (arith, length-map-range_with_len (record_of spoken hold book) 0 6)))
        (cases_lt s 6);
  }

  -- ---- where the algorithm has an end stand after t turns

  abbrev round_at : ℕ → ℕ → InRound
  round_at t v = record { site = v; holds = holds N said opening t v; phase = t / m; round = t % m + 1; n = N.n; f = N.f }

  abbrev stands_at : ℕ → ℕ → Standing
  stands_at t v = cond (ltb t (last_turn N)) (in_round (round_at t v)) (done (holds N said opening t v))

  -- the notebook that counts: before the first turn none does
  abbrev counted : ℕ → (ℕ → List ℕ) → ℕ → List ℕ
  counted t book v = cond (eqb t 0) empty_book (book v)

  pub record Stands (t : ℕ) (standing : ℕ → Standing) (book : ℕ → List ℕ) : Type 0 where
    pub stands : (v : ℕ) → Sound N rogues v → standing v ≡ stands_at t v
    pub notes : (v : ℕ) → Sound N rogues v → counted t book v ≡ book_after N said t v

  module _ (t : ℕ) (before : t < last_turn N) (standing : ℕ → Standing) (book : ℕ → List ℕ) (inv : Stands t standing book)
      (ls : Lanes) (six : length ls ≡ 6) (rogue_lanes : (u : ℕ) → u < N.n → in_set rogues u ≡ true → said t u ≡ floods (lane ls u))
      (standing' : ℕ → Standing) (book' : ℕ → List ℕ) (turn : (v : ℕ) → Sound N rogues v → TurnOf N v ls (standing v) (book v) (standing' v) (book' v)) where
    abbrev hold : ℕ → Bool
    hold v = holds N said opening t v

    abbrev quiet : State
    quiet = floor_of false hold (counted t book) silent t

    abbrev loud : State
    loud = floor_of true hold (counted t book) ls t

    quiet_follows : Follows opening said quiet
    quiet_follows = follows_as false hold (counted t book) silent t refl (omega arith) (λ v h. refl) inv.notes (λ v h. silent_lane v)

    state_is : (v : ℕ) (h : Sound N rogues v) → (turn v h).state ≡ round_at t v
    state_is v h =
        let e : in_round (turn v h).state ≡ in_round (round_at t v) =
        sym (turn v h).stood ∙ inv.stands v h ∙ cond-true (ltb t (last_turn N)) _ _ (lt-ltb t (last_turn N) before) in cc

    first_round : t ≡ 0 → t % m + 1 ≡ 1
    first_round e = ap (λ (x : ℕ). x % m + 1) e ∙ omega (arith, mod_below 0 m some, zero-mod m)

    this_phase : (v : ℕ) → Sound N rogues v → (t % m ≡ 0 → ⊥) → counted t book v ≡ shown N v (t % m) (heard said (start N (t / m)))
    this_phase v h d =
        inv.notes v h
        ∙ ap (λ (r : ℕ). shown N v r (heard said (start N (phase_noted N t)))) (rounds_within N given.lawful.least t d)
        ∙ ap (λ (p : ℕ). shown N v (t % m) (heard said (start N p))) (phase_within N given.lawful.least t d)

    owed_is : (v : ℕ) → Sound N rogues v → owed_by N (round_at t v) (book v) ≡ map flood_word (owes N said opening t v)
    owed_is v h =
        ⊎_elim
        (λ (z : t ≡ 0). owed_first N v (t % m + 1) (hold v) (book v) (counted t book v) (first_round z))
        (λ z. ap (owed_by_bits N v (t % m + 1) (hold v)) (sym (cond-false (eqb t 0) empty_book (book v) (ne_eqb t 0 z))))
        (cases_eq t 0)
        ∙ owed_alike N v (t % m) (hold v) (counted t book v) (heard said (start N (t / m))) (this_phase v h)
        ∙ ap (λ (x : SiteRecord). owed_words N v (t % m + 1) x.holds x.notebook) (sym (at_sound false hold (counted t book) silent t v h))
        ∙ speech_is size opening said quiet given quiet_follows v h

    loud_follows : Follows opening said loud
    loud_follows = follows_as true hold (counted t book) ls t six (omega arith) (λ v h. refl) inv.notes
        (λ v h. (turn v h).spoke ∙ ap (λ (e : InRound). owed_by N e (book v)) (state_is v h) ∙ owed_is v h)

    accepted : turn_reply loud ≡ Ok (t + 1)
    accepted =
        cond-false (leb (last_turn N) t) _ _ (lt-leb (last_turn N) t before)
        ∙ ap (λ (b : Bool). cond (not b) (Err Unspoken) (Ok (t + 1))) (all_spoke_from loud (λ s h. ap (λ (x : SiteRecord). x.spoken) (at_sound true hold (counted t book) ls t s h)))

    after : Follows opening said (turned loud)
    after = turned_follows size opening said loud given loud_follows (t + 1) accepted rogue_lanes

    one : t + 1 ≡ suc t
    one = omega arith

    -- the notebook and the bit after the turn
    book_is : (v : ℕ) → Sound N rogues v → book_taken N ls (round_at t v) (book v) ≡ book_after N said (suc t) v
    unfolding noting
    book_is v h =
        ⊎_elim
        (λ (z : t ≡ 0). took_first N v (t % m + 1) (heard_in (lane ls)) (book v) (counted t book v) (first_round z))
        (λ z. ap (take_round N v (t % m + 1) (heard_in (lane ls))) (sym (cond-false (eqb t 0) empty_book (book v) (ne_eqb t 0 z))))
        (cases_eq t 0)
        ∙ ap (λ (x : SiteRecord). take_round N v (t % m + 1) (heard_in (lane ls)) x.notebook) (sym (at_sound true hold (counted t book) ls t v h))
        ∙ sym (ap (λ (x : SiteRecord). x.notebook) (turned_at loud v given.small h))
        ∙ after.notes v h
        ∙ ap (λ (k : ℕ). book_after N said k v) one

    bit_is : (v : ℕ) → Sound N rogues v → bit_after loud v ≡ holds N said opening (suc t) v
    bit_is v h = sym (ap (λ (x : SiteRecord). x.holds) (turned_at loud v given.small h)) ∙ after.bits v h ∙ ap (λ (k : ℕ). holds N said opening k v) one

    -- where an end stands that has taken the last round of a phase, and weighed
    across_is : (v : ℕ) → Sound N rogues v → t % m + 1 ≡ m → weighed_if_due N (book_taken N ls (round_at t v) (book v)) (taken (round_at t v)) ≡ stands_at (suc t) v
    unfolding bit_after
    across_is v h e =
        let w : InWeighing = record { site = v; holds = hold v; phase = t / m; n = N.n; f = N.f } in
        let new : List ℕ = book_taken N ls (round_at t v) (book v) in
        let b : Bool = holds N said opening (suc t) v in
        let due : taken (round_at t v) ≡ all_taken w = cond-false (ltb (t % m + 1) m) _ _ (le-ltb (t % m + 1) m (omega arith)) in
        let noted : new ≡ noting loud v = book_is v h ∙ sym (ap (λ (k : ℕ). book_after N said k v) one) ∙ sym (after.notes v h) ∙ ap (λ (x : SiteRecord). x.notebook) (turned_at loud v given.small h) in
        let bit : bit_weighed N w new ≡ b =
        ap (λ (x : List ℕ). weigh N (told_by N v x) (suspect N (t / m)) (hold v) v) noted
        ∙ ap (λ (x : SiteRecord). weigh N (told_by N v (noting loud v)) (suspect N (t / m)) x.holds v) (sym (at_sound true hold (counted t book) ls t v h))
        ∙ sym (cond-true (eqb (t % m + 1) m) _ _ (eq-eqb (t % m + 1) m e))
        ∙ bit_is v h in
        let x = across m t some e in
        let phase : t / m + 1 ≡ suc t / m = omega (arith, x.0) in
        let round : 1 ≡ suc t % m + 1 = omega (arith, x.1) in
        ap (weighed_if_due N new) due
        ∙ ap (gone_on (phases N) w) bit
        ∙ ap (λ (c : Bool). cond c (in_round (record { site = v; holds = b; phase = t / m + 1; round = 1; n = N.n; f = N.f })) (done b)) (sym (last_of_phase m t (phases N) some e))
        ∙ ap (λ (k : ℕ). cond (ltb (suc t) (last_turn N)) (in_round (record { site = v; holds = b; phase = k; round = 1; n = N.n; f = N.f })) (done b)) phase
        ∙ ap (λ (k : ℕ). cond (ltb (suc t) (last_turn N)) (in_round (record { site = v; holds = b; phase = suc t / m; round = k; n = N.n; f = N.f })) (done b)) round

    -- where one stands that goes on in the phase
    inside_is : (v : ℕ) → Sound N rogues v → (t % m + 1 ≡ m → ⊥) → weighed_if_due N (book_taken N ls (round_at t v) (book v)) (taken (round_at t v)) ≡ stands_at (suc t) v
    unfolding bit_after
    inside_is v h d =
        let new : List ℕ = book_taken N ls (round_at t v) (book v) in
        let low : t % m + 1 < m = ⊎_elim (λ (l : t % m + 1 < m). l) (λ (l : m ≤ t % m + 1). absurd (d (omega (arith, mod_below t m some)))) (cases_lt (t % m + 1) m) in
        let on : taken (round_at t v) ≡ next_round (record { site = v; holds = hold v; phase = t / m; round = t % m + 1 + 1; n = N.n; f = N.f }) = cond-true (ltb (t % m + 1) m) _ _ (lt-ltb (t % m + 1) m low) in
        let bit : hold v ≡ holds N said opening (suc t) v =
        ap (λ (x : SiteRecord). x.holds) (sym (at_sound true hold (counted t book) ls t v h))
        ∙ sym (cond-false (eqb (t % m + 1) m) _ _ (ne_eqb (t % m + 1) m d))
        ∙ bit_is v h in
        let x = inside m t some d in
        let round : t % m + 1 + 1 ≡ suc t % m + 1 = omega (arith, x.1) in
        ap (weighed_if_due N new) on
        ∙ ap (λ (b : Bool). in_round (record { site = v; holds = b; phase = t / m; round = t % m + 1 + 1; n = N.n; f = N.f })) bit
        ∙ ap (λ (k : ℕ). in_round (record { site = v; holds = holds N said opening (suc t) v; phase = k; round = t % m + 1 + 1; n = N.n; f = N.f })) (sym x.0)
        ∙ ap (λ (k : ℕ). in_round (record { site = v; holds = holds N said opening (suc t) v; phase = suc t / m; round = k; n = N.n; f = N.f })) round
        ∙ sym (cond-true (ltb (suc t) (last_turn N)) _ _ (lt-ltb (suc t) (last_turn N) (not_last m t (phases N) some before d)))

    stands_next : Stands (suc t) standing' book'
    stands_next = record {
      stands = λ v h.
          (turn v h).went_on
          ∙ ap (λ (e : InRound). weighed_if_due N (book_taken N ls e (book v)) (taken e)) (state_is v h)
          ∙ ⊎_elim (across_is v h) (inside_is v h) (cases_eq (t % m + 1) m);
      notes = λ v h.
          cond-false (eqb (suc t) 0) empty_book (book' v) (ne_eqb (suc t) 0 (λ z. omega arith))
          ∙ (turn v h).noted
          ∙ ap (λ (e : InRound). book_taken N ls e (book v)) (state_is v h)
          ∙ book_is v h;
    }

  -- ---- all turns

  module _ (standing : ℕ → ℕ → Standing) (book : ℕ → ℕ → List ℕ) (lanes : ℕ → Lanes) (turns : ℕ) (within : turns ≤ last_turn N)
      (step : InStep N rogues bits standing book lanes turns)
      (rogue_lanes : (t u : ℕ) → t < turns → u < N.n → in_set rogues u ≡ true → said t u ≡ floods (lane (lanes t) u)) where
    stands_first : 0 < last_turn N → Stands 0 (standing 0) (book 0)
    stands_first l = record {
      stands = λ v h.
          step.begin_all v h
          ∙ ap (λ (b : Bool). in_round (begun N v b)) (sym (holds_none N said opening given.lawful.least v))
          ∙ ap (λ (k : ℕ). in_round (record { site = v; holds = holds N said opening 0 v; phase = k; round = 1; n = N.n; f = N.f })) (sym (zero-div m))
          ∙ ap (λ (k : ℕ). in_round (record { site = v; holds = holds N said opening 0 v; phase = 0 / m; round = k + 1; n = N.n; f = N.f })) (sym (zero-mod m))
          ∙ sym (cond-true (ltb 0 (last_turn N)) _ _ (lt-ltb 0 (last_turn N) l));
      notes = λ v h. sym (shown_none N v _);
    }

    pub stands_all : 0 < last_turn N → (t : ℕ) → t ≤ turns → Stands t (standing t) (book t)
    stands_all l zero h = stands_first l
    stands_all l (suc t) h =
        stands_next t (omega arith) (standing t) (book t) (stands_all l t (omega arith)) (lanes t) (step.six t (omega arith))
        (λ u b r. rogue_lanes t u (omega arith) b r) (standing (suc t)) (book (suc t)) (λ v g. step.each_turn t v (omega arith) g)

bit_there : (b : Bool) (e : InRound) (x : Bool) → e.holds ≡ x → bit_of (cond b (in_round e) (done x)) ≡ x
bit_there true e x h = h
bit_there false e x h = refl

-- a run has some turns
some_turns : (N : Network) → 2 ≤ N.n → 0 < phases N → 0 < last_turn N
some_turns N least more = let up : 1 * (N.n - 1) ≤ phases N * (N.n - 1) = mul-le-mul_right (N.n - 1) (omega arith) in omega arith

pub in_step_law : InStepLaw
in_step_law size N rogues bits entries floor standing book lanes wide lawful small few ran step same v h =
    let talk : Said = play N rogues (in_set bits) (λ t u. floods (transmitted entries t u)) in
    let given : Given (in_set bits) talk N rogues = record { lawful = lawful; small = small; honest = λ t u g. play_sound N rogues (in_set bits) (λ t u. floods (transmitted entries t u)) lawful t u g } in
    let g = guarantee_law size N rogues bits entries floor wide lawful small few ran in
    let turns : ℕ = accepted_turns entries in
    let all = stands_all size N rogues bits talk given standing book lanes turns g.no_more_turns_than_the_last step
    (λ t u l b r. play_rogue N rogues (in_set bits) (λ t u. floods (transmitted entries t u)) t u r ∙ ap floods (sym (same t u l b r))) (some_turns N lawful.least (omega (arith, g.some_phase_covers.1))) turns (omega arith) in
    g.held_follows_the_algorithm v h
    ∙ ap (λ (b : Bool). Ok b) (sym (ap bit_of (all.stands v h) ∙ bit_there (ltb turns (last_turn N)) _ (holds N talk (in_set bits) turns v) refl))
