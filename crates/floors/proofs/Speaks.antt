-- Speaking by a table is speaking by the network.
use Rattle.std.proofs.Common.{◌≡◌, ℕ, ◌+◌, ◌-◌, ◌<◌, ◌≤◌, Bool, false, cond, ltb, leb, List, length, get_or, set, Ok, Err, Result, sym, refl, ap, ◌∙◌, arith}
use Rattle.std.proofs.lemmas.List.{set-get_or}
use Rattle.std.proofs.lemmas.Bool.Decides.{nat_tests}
use Rattle.sites.specs.declared.refusal.Refusal.{Refusal}
use Rattle.sites.specs.declared.refusal.Refusal.TheVariants.{NoSite, Over, Spoken, LaneFull}
use Rattle.theory.specs.Network.{Network}
use Rattle.theory.specs.Runs.{Sound}
use Rattle.airs.specs.Lanes.{Lanes, count_of, added, kept}
use Rattle.tables.specs.declared.table.PathTable.{PathTable}
use Rattle.runs.specs.State.{State, SiteRecord, site, over, round}
use Rattle.runs.specs.Replies.{speech, as_spoken, speak_reply, speak_next, spoken_by}
use Rattle.runs.proofs.Accepted.{for_sound_is}
use Rattle.rounds.specs.Speaking.{put_all_reply, put_all_next}
use Rattle.floors.specs.Tables.{Fits}
use Rattle.floors.specs.Views.{owed_by}
use Rattle.site_plans.proofs.Fitted.{owed_words_fit}

pub set_kept : {X : Type 0} (r : Result ℕ Refusal) (xs : List X) (s : ℕ) (y d : X) → set xs s (kept r y (get_or xs s d)) ≡ kept r (set xs s y) xs
set_kept (Ok k) xs s y d = refl
set_kept (Err e) xs s y d = set-get_or xs s d

room : (size count len : ℕ) → count ≤ size → ltb (size - count) len ≡ ltb size (count + len)
room size count len l = grind (arith, nat_tests)

put_all_is : (size : ℕ) (ls : Lanes) (s : ℕ) (ws : List ℕ) → s < 6 → count_of ls s ≤ size →
    put_all_reply size ls s ws ≡ cond (ltb size (count_of ls s + length ws)) (Err LaneFull) (Ok (length ws))
put_all_is size ls s ws l h =
    let six : leb 6 s ≡ false = grind (arith, nat_tests) in
    ap (λ (b : Bool). cond b (Err NoSite) (cond (ltb (size - count_of ls s) (length ws)) (Err LaneFull) (Ok (length ws)))) six
    ∙ ap (λ (b : Bool). cond b (Err LaneFull) (Ok (length ws))) (room size (count_of ls s) (length ws) h)

both_kept : (r : Result ℕ Refusal) (N : Network) (rogues turns : ℕ) (a b : List SiteRecord) (x y : Lanes) →
    ◌≡◌ {A = State} (record { net = N; rogues = rogues; records = kept r a b; lanes = kept r x y; turns = turns })
    (kept r (record { net = N; rogues = rogues; records = a; lanes = x; turns = turns }) (record { net = N; rogues = rogues; records = b; lanes = y; turns = turns }))
both_kept (Ok k) N rogues turns a b x y = refl
both_kept (Err e) N rogues turns a b x y = refl

module _ (size : ℕ) (st : State) (s : ℕ) (t : PathTable) (R : Result ℕ Refusal) (small : st.net.n ≤ 6) (sound : Sound st.net st.rogues s)
    (not-over : over st ≡ false) (silent : (site st s).spoken ≡ false) (within : count_of st.lanes s ≤ size) (fits : Fits st.net s t)
    (is : R ≡ put_all_reply size st.lanes t.site (owed_by t (round st) (site st s))) where
  same_words : owed_by t (round st) (site st s) ≡ speech st s
  same_words = owed_words_fit st.net s t fits sound.0 (round st) (site st s).holds (site st s).notebook

  by_network : put_all_reply size st.lanes t.site (owed_by t (round st) (site st s)) ≡ put_all_reply size st.lanes s (speech st s)
  by_network = ap (λ (v : ℕ). put_all_reply size st.lanes v (owed_by t (round st) (site st s))) fits.site ∙ ap (put_all_reply size st.lanes s) same_words

  pub spoken_answer : R ≡ speak_reply size st s
  spoken_answer =
      is ∙ by_network ∙ put_all_is size st.lanes s (speech st s) (omega (arith, sound.0)) within
      ∙ sym (for_sound_is st s _ sound
      ∙ ap (λ (b : Bool). cond b (Err Over) (cond (site st s).spoken (Err Spoken) (cond (ltb size (count_of st.lanes s + length (speech st s))) (Err LaneFull) (Ok (length (speech st s)))))) not-over
      ∙ ap (λ (b : Bool). cond b (Err Spoken) (cond (ltb size (count_of st.lanes s + length (speech st s))) (Err LaneFull) (Ok (length (speech st s))))) silent)

  pub spoken_state : (recs : List SiteRecord) (ls : Lanes) → ls ≡ put_all_next size st.lanes t.site (owed_by t (round st) (site st s)) → recs ≡ kept R (set st.records s (as_spoken (site st s))) st.records →
      ◌≡◌ {A = State} (record { net = st.net; rogues = st.rogues; records = recs; lanes = ls; turns = st.turns }) (speak_next size st s)
  spoken_state recs ls put told =
      let lanes-are : ls ≡ kept R (added st.lanes s (speech st s)) st.lanes =
      put
      ∙ ap (λ (r : Result ℕ Refusal). kept r (added st.lanes t.site (owed_by t (round st) (site st s))) st.lanes) (sym is)
      ∙ ap (λ (v : ℕ). kept R (added st.lanes v (owed_by t (round st) (site st s))) st.lanes) fits.site
      ∙ ap (λ (ws : List ℕ). kept R (added st.lanes s ws) st.lanes) same_words in
      ap (λ (rs : List SiteRecord). record { net = st.net; rogues = st.rogues; records = rs; lanes = ls; turns = st.turns }) told
      ∙ ap (λ (x : Lanes). record { net = st.net; rogues = st.rogues; records = kept R (set st.records s (as_spoken (site st s))) st.records; lanes = x; turns = st.turns }) lanes-are
      ∙ both_kept R st.net st.rogues st.turns (set st.records s (as_spoken (site st s))) st.records (added st.lanes s (speech st s)) st.lanes
      ∙ ap (λ (r : Result ℕ Refusal). kept r (spoken_by st s) st) spoken_answer
