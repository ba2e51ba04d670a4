-- Lists of calls: what each call does to the turns and to the lanes of rogues, and what a whole list leads to.
use Rattle.std.proofs.Common.{◌≡◌, ℕ, zero, suc, ◌+◌, ◌<◌, ◌≤◌, Bool, true, cond, ◌||◌, eqb, List, [], ◌∷◌, ◌++◌, length, get_or, Ok, Err, Result, sym, refl, ap, ◌∙◌, subst, ⊎_elim, append_assoc, append-nil, arith, length-append}
use Rattle.std.proofs.lemmas.List.{get_or-set_same, get_or-set_other}
use Rattle.std.proofs.lemmas.Bool.{eq-eqb, ne_eqb, cases_eq, both_ways, or_left, cond-true, cond-false}
use Rattle.sites.specs.declared.refusal.Refusal.{Refusal}
use Rattle.sites.specs.Sets.{in_set}
use Rattle.theory.specs.Network.{Network}
use Rattle.theory.specs.Flooding.{Said}
use Rattle.theory.specs.Runs.{Sound}
use Rattle.airs.specs.Lanes.{lane}
use Rattle.airs.proofs.Puts.{added_own, added_other}
use Rattle.notebooks.specs.Floods.{floods}
use Rattle.runs.specs.declared.calls.Call.{Call}
use Rattle.runs.specs.declared.calls.Call.TheVariants.{Transmit, Speak, Turn, Held, Decision, Recalled}
use Rattle.runs.specs.State.{SiteRecord, State, blank, site}
use Rattle.runs.specs.Replies.{transmit_reply, put, speech, speak_reply, as_spoken, spoken_by, turn_reply, turned}
use Rattle.runs.specs.Runs.{Answer, counted, reply, next, Entry, Ran, none, more, after, answers, entries, turn_answer, turn_answers, accepted_turns, spoke_then, has_spoken_from, let_put, transmitted_from}
use Rattle.runs.specs.Guarantee.{ByTheAlgorithm}
use Rattle.runs.proofs.Accepted.{kept_both, transmit_ok, speak_ok, turn_ok}
use Rattle.runs.proofs.Follows.{Given, Follows, silent_lane, turned_at, transmitted_follows, spoken_follows, turned_follows}
use Rattle.runs.proofs.Replies.{answer_is}

-- ---- what was transmitted

-- nothing before the list began
late : (es : List Entry) (k t u : ℕ) → t < k → transmitted_from k es t u ≡ []
unfolding transmitted_from
late [] k t u l = refl
late (e ∷ es) k t u l =
    ap (λ (x : List ℕ). x ++ transmitted_from (k + length (turn_answer e.call e.answer)) es t u)
    (cond-false (eqb k t) (let_put u e.call e.answer) [] (ne_eqb k t (λ q. omega arith)))
    ∙ late es (k + length (turn_answer e.call e.answer)) t u (omega arith)

-- a lane and what is still to come, before a call and after it: a turns before, b after, L and M the lane, P what the call put, X what the later ones put
shift : (a b d t : ℕ) (L M P X : List ℕ) → b ≡ a + d → b ≤ t → M ≡ cond (eqb a b) (L ++ P) [] →
    cond (eqb a t) L [] ++ (cond (eqb a t) P [] ++ X) ≡ cond (eqb b t) M [] ++ X
shift a b d t L M P X e l m = ⊎_elim
    (λ (q : a ≡ t).
    let ab : a ≡ b = omega arith in
    let bt : b ≡ t = omega arith in
    ap (λ (x : List ℕ). x ++ (cond (eqb a t) P [] ++ X)) (cond-true (eqb a t) L [] (eq-eqb a t q))
    ∙ ap (λ (x : List ℕ). L ++ (x ++ X)) (cond-true (eqb a t) P [] (eq-eqb a t q))
    ∙ sym (append_assoc L P X)
    ∙ ap (λ (x : List ℕ). x ++ X) (sym (m ∙ cond-true (eqb a b) (L ++ P) [] (eq-eqb a b ab)) ∙ sym (cond-true (eqb b t) M [] (eq-eqb b t bt))))
    (λ q.
    ap (λ (x : List ℕ). x ++ (cond (eqb a t) P [] ++ X)) (cond-false (eqb a t) L [] (ne_eqb a t q))
    ∙ ap (λ (x : List ℕ). x ++ X) (cond-false (eqb a t) P [] (ne_eqb a t q))
    ∙ ap (λ (x : List ℕ). x ++ X) (⊎_elim
    (λ (bt : b ≡ t). sym (cond-true (eqb b t) M [] (eq-eqb b t bt) ∙ m ∙ cond-false (eqb a b) (L ++ P) [] (ne_eqb a b (λ z. q (z ∙ bt)))))
    (λ bt. sym (cond-false (eqb b t) M [] (ne_eqb b t bt)))
    (cases_eq b t)))
    (cases_eq a t)

-- ---- one call

-- what a call, answered so, does to the turns and to a rogue's lane
pub record Moves (st then : State) (c : Call) (a : Answer) : Type 0 where
  pub net : then.net ≡ st.net
  pub rogues : then.rogues ≡ st.rogues
  pub turns : then.turns ≡ st.turns + length (turn_answer c a)
  pub counts : (j : ℕ) → j < length (turn_answer c a) → get_or (turn_answer c a) j 0 ≡ st.turns + j + 1
  pub single : length (turn_answer c a) ≤ 1
  pub lanes : (u : ℕ) → u < st.net.n → in_set st.rogues u ≡ true → lane then.lanes u ≡ cond (eqb st.turns then.turns) (lane st.lanes u ++ let_put u c a) []
  pub spoken : (v : ℕ) → Sound st.net st.rogues v → (site then v).spoken ≡ spoke_then v (site st v).spoken c a

same_lane : (st : State) (u : ℕ) (L : List ℕ) → L ≡ lane st.lanes u → L ≡ cond (eqb st.turns st.turns) (lane st.lanes u ++ []) []
same_lane st u L e = e ∙ sym (append-nil (lane st.lanes u)) ∙ sym (cond-true (eqb st.turns st.turns) (lane st.lanes u ++ []) [] (eq-eqb st.turns st.turns refl))

-- a call that changes nothing
still : (st : State) (c : Call) (a : Answer) → turn_answer c a ≡ [] → ((u : ℕ) → let_put u c a ≡ []) → ((v : ℕ) (b : Bool) → b ≡ spoke_then v b c a) → Moves st st c a
still st c a e p q =
    let none : length (turn_answer c a) ≡ 0 = ap length e in
    record {
      net = refl;
      rogues = refl;
      turns = omega arith;
      counts = λ j l. absurd (omega arith);
      single = omega arith;
      lanes = λ u l r. same_lane st u (lane st.lanes u) refl ∙ ap (λ (x : List ℕ). cond (eqb st.turns st.turns) (lane st.lanes u ++ x) []) (sym (p u));
      spoken = λ v h. q v (site st v).spoken;
    }

module _ (size : ℕ) (opening : ℕ → Bool) (said : Said) where
  moves : (st : State) (c : Call) → Given opening said st.net st.rogues → Follows opening said st → Moves st (next size st c) c (reply size st c)
  moves st (Transmit s w) given inv =
      kept_both (λ x r. Moves st x (Transmit s w) (counted r)) (transmit_reply size st s) (put st s (w ∷ [])) st
      (λ k e. let ok = transmit_ok size st s k e in record {
        net = refl;
        rogues = refl;
        turns = omega arith;
        counts = λ j l. absurd (omega arith);
        single = omega arith;
        lanes = λ u l r. ⊎_elim
            (λ (q : s ≡ u).
            subst (λ (x : ℕ). lane (put st s (w ∷ [])).lanes x ≡ cond (eqb st.turns st.turns) (lane st.lanes x ++ cond (eqb s x) (w ∷ []) []) []) q
            (added_own st.lanes s (w ∷ []) (omega (arith, ok.0, given.small, inv.six_lanes))
            ∙ ap (λ (x : List ℕ). lane st.lanes s ++ x) (sym (cond-true (eqb s s) (w ∷ []) [] (eq-eqb s s refl)))
            ∙ sym (cond-true (eqb st.turns st.turns) _ [] (eq-eqb st.turns st.turns refl))))
            (λ q. added_other st.lanes s u (w ∷ []) (λ z. q (sym z))
            ∙ same_lane st u (lane st.lanes u) refl
            ∙ ap (λ (x : List ℕ). cond (eqb st.turns st.turns) (lane st.lanes u ++ x) []) (sym (cond-false (eqb s u) (w ∷ []) [] (ne_eqb s u q))))
            (cases_eq s u);
        spoken = λ v h. refl;
      })
      (λ x e. still st (Transmit s w) (Err x) refl (λ u. refl) (λ v b. refl))
  moves st (Speak s) given inv =
      kept_both (λ x r. Moves st x (Speak s) (counted r)) (speak_reply size st s) (spoken_by st s) st
      (λ k e. let ok = speak_ok size st s k e in record {
        net = refl;
        rogues = refl;
        turns = omega arith;
        counts = λ j l. absurd (omega arith);
        single = omega arith;
        lanes = λ u l r. same_lane st u (lane (spoken_by st s).lanes u) (added_other st.lanes s u (speech st s)
            (λ (z : u ≡ s). both_ways (in_set st.rogues s) ok.0.1 (ap (λ (x : ℕ). in_set st.rogues x) (sym z) ∙ r)));
        spoken = λ v h. ⊎_elim
            (λ (q : s ≡ v).
            subst (λ (x : ℕ). (site (spoken_by st s) x).spoken ≡ (eqb s x || (site st x).spoken)) q
            (ap (λ (x : SiteRecord). x.spoken) (get_or-set_same st.records s (as_spoken (site st s)) blank (omega (arith, ok.0.0, given.small, inv.six_records)))
            ∙ sym (or_left (eqb s s) (site st s).spoken (eq-eqb s s refl))))
            (λ q. ap (λ (x : SiteRecord). x.spoken) (get_or-set_other st.records s v (as_spoken (site st s)) blank (λ z. q (sym z)))
            ∙ ap (λ (b : Bool). b || (site st v).spoken) (sym (ne_eqb s v q)))
            (cases_eq s v);
      })
      (λ x e. still st (Speak s) (Err x) refl (λ u. refl) (λ v b. refl))
  moves st Turn given inv =
      kept_both (λ x r. Moves st x Turn (counted r)) (turn_reply st) (turned st) st
      (λ k e. let ok = turn_ok st k e in record {
        net = refl;
        rogues = refl;
        turns = refl;
        counts = λ j l. let z : j ≡ 0 = omega arith in subst (λ (i : ℕ). get_or (k ∷ []) i 0 ≡ st.turns + i + 1) (sym z) (ok.2 ∙ omega arith);
        single = omega arith;
        lanes = λ u l r. silent_lane u ∙ sym (cond-false (eqb st.turns (st.turns + 1)) _ [] (ne_eqb st.turns (st.turns + 1) (λ z. omega arith)));
        spoken = λ v h. ap (λ (x : SiteRecord). x.spoken) (turned_at st v given.small h);
      })
      (λ x e. still st Turn (Err x) refl (λ u. refl) (λ v b. refl))
  moves st (Held s) given inv = still st (Held s) _ refl (λ u. refl) (λ v b. refl)
  moves st (Decision s) given inv = still st (Decision s) _ refl (λ u. refl) (λ v b. refl)
  moves st (Recalled s w) given inv = still st (Recalled s w) _ refl (λ u. refl) (λ v b. refl)

  -- ---- what is said from now on

  -- what the rogues say in this turn and later is what is in their lanes now and what the list still lets them transmit
  abbrev pub Foretold : State → List Entry → Type 0
  Foretold st es = (t u : ℕ) → st.turns ≤ t → u < st.net.n → in_set st.rogues u ≡ true →
      said t u ≡ floods (cond (eqb st.turns t) (lane st.lanes u) [] ++ transmitted_from st.turns es t u)

  foretold_more : (st then : State) (c : Call) (a : Answer) (es : List Entry) → Moves st then c a → Foretold st (record { call = c; answer = a } ∷ es) → Foretold then es
  unfolding transmitted_from
  foretold_more st then c a es m f t u l b r =
      let below : u < st.net.n = subst (λ (N : Network). u < N.n) m.net b in
      let rogue : in_set st.rogues u ≡ true = subst (λ (x : ℕ). in_set x u ≡ true) m.rogues r in
      f t u (omega (arith, m.turns)) below rogue
      ∙ ap floods
      (shift st.turns then.turns (length (turn_answer c a)) t (lane st.lanes u) (lane then.lanes u) (let_put u c a) (transmitted_from (st.turns + length (turn_answer c a)) es t u) m.turns l (m.lanes u below rogue)
      ∙ ap (λ (k : ℕ). cond (eqb then.turns t) (lane then.lanes u) [] ++ transmitted_from k es t u) (sym m.turns))

  -- in a turn, what the rogues say is what is in their lanes
  rogue_lanes : (st : State) (es : List Entry) (k : ℕ) → turn_reply st ≡ Ok k → Foretold st (record { call = Turn; answer = reply size st Turn } ∷ es) →
      (u : ℕ) → u < st.net.n → in_set st.rogues u ≡ true → said st.turns u ≡ floods (lane st.lanes u)
  unfolding transmitted_from
  rogue_lanes st es k e f u l r =
      let t : ℕ = st.turns in
      let a : List ℕ = turn_answer Turn (counted (turn_reply st)) in
      let one : length (turn_answer Turn (counted (turn_reply st))) ≡ 1 = ap (λ (x : Result ℕ Refusal). length (turn_answer Turn (counted x))) e in
      f t u (omega arith) l r
      ∙ ap floods
      (ap (λ (x : List ℕ). x ++ (cond (eqb t t) [] [] ++ transmitted_from (t + length a) es t u)) (cond-true (eqb t t) (lane st.lanes u) [] (eq-eqb t t refl))
      ∙ ap (λ (x : List ℕ). lane st.lanes u ++ (x ++ transmitted_from (t + length a) es t u)) (cond-true (eqb t t) [] [] (eq-eqb t t refl))
      ∙ ap (λ (x : List ℕ). lane st.lanes u ++ x) (late es (t + length a) t u (omega arith))
      ∙ append-nil (lane st.lanes u))

  next_follows : (st : State) (c : Call) (es : List Entry) → Given opening said st.net st.rogues → Follows opening said st →
      Foretold st (record { call = c; answer = reply size st c } ∷ es) → Follows opening said (next size st c)
  next_follows st (Transmit s w) es given inv f =
      kept_both (λ x r. Follows opening said x) (transmit_reply size st s) (put st s (w ∷ [])) st (λ k e. transmitted_follows size opening said st given inv s w k e) (λ x e. inv)
  next_follows st (Speak s) es given inv f =
      kept_both (λ x r. Follows opening said x) (speak_reply size st s) (spoken_by st s) st (λ k e. spoken_follows size opening said st given inv s k e) (λ x e. inv)
  next_follows st Turn es given inv f =
      kept_both (λ x r. Follows opening said x) (turn_reply st) (turned st) st (λ k e. turned_follows size opening said st given inv k e (rogue_lanes st es k e f)) (λ x e. inv)
  next_follows st (Held s) es given inv f = inv
  next_follows st (Decision s) es given inv f = inv
  next_follows st (Recalled s w) es given inv f = inv

  -- ---- a list of calls

  -- each call is answered by the algorithm, where k turns came before the list
  abbrev pub Answered : Network → ℕ → ℕ → List Entry → Type 0
  Answered N rogues k [] = Unit {0}
  Answered N rogues k (e ∷ es) = ByTheAlgorithm N rogues opening said k e.call e.answer × Answered N rogues (k + length (turn_answer e.call e.answer)) es

  pub answered_at : (N : Network) (rogues k : ℕ) (before later : List Entry) (e : Entry) → Answered N rogues k (before ++ e ∷ later) →
      ByTheAlgorithm N rogues opening said (k + accepted_turns before) e.call e.answer
  answered_at N rogues k [] later e a =
      let z : k ≡ k + accepted_turns [] = omega arith in
      subst (λ (j : ℕ). ByTheAlgorithm N rogues opening said j e.call e.answer) z a.0
  answered_at N rogues k (b ∷ before) later e a =
      let z : k + length (turn_answer b.call b.answer) + accepted_turns before ≡ k + accepted_turns (b ∷ before) = omega (arith, length-append (turn_answer b.call b.answer) (turn_answers before)) in
      subst (λ (j : ℕ). ByTheAlgorithm N rogues opening said j e.call e.answer) z (answered_at N rogues (k + length (turn_answer b.call b.answer)) before later e a.1)

  -- what a list of calls leads to
  pub record Reached (st last : State) (es : List Entry) : Type 0 where
    pub net : last.net ≡ st.net
    pub rogues : last.rogues ≡ st.rogues
    pub turns : last.turns ≡ st.turns + accepted_turns es
    pub counts : (j : ℕ) → j < accepted_turns es → get_or (turn_answers es) j 0 ≡ st.turns + j + 1
    pub lanes : (u : ℕ) → u < st.net.n → in_set st.rogues u ≡ true →
        lane last.lanes u ≡ cond (eqb st.turns last.turns) (lane st.lanes u) [] ++ transmitted_from st.turns es last.turns u
    pub spoken : (v : ℕ) → Sound st.net st.rogues v → (site last v).spoken ≡ has_spoken_from (site st v).spoken es v
    pub answered : Answered st.net st.rogues st.turns es
    pub follows : Follows opening said last

  joined_counts : (xs ys : List ℕ) (k : ℕ) → length xs ≤ 1 → ((j : ℕ) → j < length xs → get_or xs j 0 ≡ k + j + 1) → ((j : ℕ) → j < length ys → get_or ys j 0 ≡ k + length xs + j + 1) →
      (j : ℕ) → j < length (xs ++ ys) → get_or (xs ++ ys) j 0 ≡ k + j + 1
  joined_counts [] ys k s a b j l = b j l ∙ omega arith
  joined_counts (x ∷ []) ys k s a b zero l = a 0 (omega arith)
  joined_counts (x ∷ []) ys k s a b (suc j) l = b j (omega arith) ∙ omega arith
  joined_counts (x ∷ y ∷ xs) ys k s a b j l = absurd (omega arith)

  pub reached : (cs : List Call) (st : State) → Given opening said st.net st.rogues → Follows opening said st → Foretold st (entries cs (answers size st cs)) →
      Reached st (after size st cs) (entries cs (answers size st cs))
  unfolding transmitted_from
  reached [] st given inv f = record {
    net = refl;
    rogues = refl;
    turns = omega arith;
    counts = λ j l. absurd (omega arith);
    lanes = λ u l r. sym (append-nil (cond (eqb st.turns st.turns) (lane st.lanes u) []) ∙ cond-true (eqb st.turns st.turns) (lane st.lanes u) [] (eq-eqb st.turns st.turns refl));
    spoken = λ v h. refl;
    answered = tt;
    follows = inv;
  }
  reached (c ∷ cs) st given inv f =
      let a : Answer = reply size st c in
      let then : State = next size st c in
      let es : List Entry = entries cs (answers size then cs) in
      let m : Moves st then c a = moves st c given inv in
      let given' : Given opening said then.net then.rogues =
      subst (λ (x : ℕ). Given opening said then.net x) (sym m.rogues) (subst (λ (N : Network). Given opening said N st.rogues) (sym m.net) given) in
      let rest : Reached then (after size then cs) es = reached cs then given' (next_follows st c es given inv f) (foretold_more st then c a es m f) in
      let last : State = after size then cs in
      let long : length (turn_answer c a ++ turn_answers es) ≡ length (turn_answer c a) + length (turn_answers es) = length-append (turn_answer c a) (turn_answers es) in
      record {
        net = rest.net ∙ m.net;
        rogues = rest.rogues ∙ m.rogues;
        turns = omega (arith, rest.turns, m.turns, long);
        counts = joined_counts (turn_answer c a) (turn_answers es) st.turns m.single m.counts (λ j l. rest.counts j l ∙ ap (λ (x : ℕ). x + j + 1) m.turns);
        lanes = λ u l r.
            let below : u < then.net.n = subst (λ (N : Network). u < N.n) (sym m.net) l in
            let rogue : in_set then.rogues u ≡ true = subst (λ (x : ℕ). in_set x u ≡ true) (sym m.rogues) r in
            rest.lanes u below rogue
            ∙ ap (λ (k : ℕ). cond (eqb then.turns last.turns) (lane then.lanes u) [] ++ transmitted_from k es last.turns u) m.turns
            ∙ sym (shift st.turns then.turns (length (turn_answer c a)) last.turns (lane st.lanes u) (lane then.lanes u) (let_put u c a) (transmitted_from (st.turns + length (turn_answer c a)) es last.turns u) m.turns (omega (arith, rest.turns)) (m.lanes u l r));
        spoken = λ v h.
            rest.spoken v (subst (λ (x : ℕ). Sound then.net x v) (sym m.rogues) (subst (λ (N : Network). Sound N st.rogues v) (sym m.net) h))
            ∙ ap (λ (b : Bool). has_spoken_from b es v) (m.spoken v h);
        answered = (
          answer_is size opening said st given inv c,
          subst (λ (k : ℕ). Answered st.net st.rogues k es) m.turns
              (subst (λ (x : ℕ). Answered st.net x then.turns es) m.rogues (subst (λ (N : Network). Answered N then.rogues then.turns es) m.net rest.answered)),
        );
        follows = rest.follows;
      }

-- ---- the relation is that of performing the calls one after another

pub runs_so : (size : ℕ) (cs : List Call) (st : State) → Ran size st (entries cs (answers size st cs)) (after size st cs)
runs_so size [] st = none
runs_so size (c ∷ cs) st = more refl refl (runs_so size cs (next size st c))

pub ran_so : {size : ℕ} {st last : State} {es : List Entry} → Ran size st es last → (cs : List Call) × (es ≡ entries cs (answers size st cs)) × (last ≡ after size st cs)
ran_so none = ([], refl, refl)
ran_so {size} {st} (more {mid = mid} {last = last} {c = c} {a = a} {es = es} ea em r) =
    let h = ran_so r in (
      c ∷ h.0,
      ap (λ (x : Answer). record { call = c; answer = x } ∷ es) ea
          ∙ ap (λ (l : List Entry). record { call = c; answer = reply size st c } ∷ l) (h.1 ∙ ap (λ (x : State). entries h.0 (answers size x h.0)) em),
      h.2 ∙ ap (λ (x : State). after size x h.0) em,
    )
