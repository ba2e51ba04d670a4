-- Lists of calls, one call more.
use Rattle.std.proofs.Common.{◌≡◌, ℕ, suc, ◌+◌, ◌<◌, ◌≤◌, List, [], ◌∷◌, ◌++◌, length, get_or, take, drop, set, sym, refl, ap, ◌∙◌, subst, append_assoc, arith}
use Rattle.std.proofs.lemmas.List.{take_more, drop_more, length-take-le, set_at}
use Rattle.theory.specs.Network.{Lawful}
use Rattle.runs.specs.declared.calls.Call.{Call}
use Rattle.runs.specs.State.{State}
use Rattle.runs.specs.Runs.{Answer, reply, next, Entry, Ran, none, more, after, answers, entries}
use Rattle.runs.proofs.Guarantee.{guarantee_law}
use Rattle.runs.proofs.Runs.{runs_so}
use Rattle.floors.specs.Lists.{Performed}

module _ (size : ℕ) where
  after_one : (st : State) (cs : List Call) (c : Call) → after size st (cs ++ c ∷ []) ≡ next size (after size st cs) c
  after_one st [] c = refl
  after_one st (b ∷ cs) c = after_one (next size st b) cs c

  answers_one : (st : State) (cs : List Call) (c : Call) → answers size st (cs ++ c ∷ []) ≡ answers size st cs ++ reply size (after size st cs) c ∷ []
  answers_one st [] c = refl
  answers_one st (b ∷ cs) c = ap (λ (l : List Answer). reply size st b ∷ l) (answers_one (next size st b) cs c)

  answers_length : (st : State) (cs : List Call) → length (answers size st cs) ≡ length cs
  answers_length st [] = refl
  answers_length st (b ∷ cs) = ap suc (answers_length (next size st b) cs)

  pub after_more : (st mid last : State) (cs : List Call) (i : ℕ) (d : Call) → i < length cs → mid ≡ after size st (take i cs) → last ≡ next size mid (get_or cs i d) → last ≡ after size st (take (i + 1) cs)
  after_more st mid last cs i d l e h =
      h ∙ ap (λ (s : State). next size s (get_or cs i d)) e ∙ sym (after_one st (take i cs) (get_or cs i d)) ∙ ap (after size st) (sym (take_more cs i d l))

  pub answers_more : (st mid : State) (cs : List Call) (old now : List Answer) (i : ℕ) (d : Call) (y e : Answer) → i < length cs → i < length old → mid ≡ after size st (take i cs) →
      now ≡ answers size st (take i cs) ++ drop i old → y ≡ reply size mid (get_or cs i d) → set now i y ≡ answers size st (take (i + 1) cs) ++ drop (i + 1) old
  answers_more st mid cs old now i d y e l m h is r =
      let front = answers size st (take i cs) in
      let long : length front ≡ i = answers_length st (take i cs) ∙ length-take-le i cs (omega arith) in
      ap (λ (x : List Answer). set x i y) (is ∙ ap (λ (x : List Answer). front ++ x) (drop_more old i e m))
      ∙ set_at front _ _ y i long
      ∙ ap (λ (x : Answer). front ++ x ∷ drop (i + 1) old) (r ∙ ap (λ (s : State). reply size s (get_or cs i d)) h)
      ∙ sym (append_assoc front (reply size (after size st (take i cs)) (get_or cs i d) ∷ []) (drop (i + 1) old))
      ∙ ap (λ (x : List Answer). x ++ drop (i + 1) old) (sym (answers_one st (take i cs) (get_or cs i d)) ∙ ap (answers size st) (sym (take_more cs i d l)))

  -- ---- the guarantee

  ran_join : {a b c : State} {es fs : List Entry} → Ran size a es b → Ran size b fs c → Ran size a (es ++ fs) c
  ran_join none q = q
  ran_join (more x y p) q = more x y (ran_join p q)

  pub performed : (st last : State) (cs : List Call) (given : List Answer) → 120 ≤ size → Lawful st.net → st.net.n ≤ 6 → given ≡ answers size st cs → last ≡ after size st cs → Performed size st cs given last
  performed st last cs given wide lawful small a e =
      let r : Ran size st (entries cs given) last =
      subst (λ (s : State). Ran size st (entries cs given) s) (sym e) (subst (λ (l : List Answer). Ran size st (entries cs l) (after size st cs)) (sym a) (runs_so size cs st)) in
      record {
        run = r;
        guarantee = λ rogues bits before few from. guarantee_law size st.net rogues bits (before ++ entries cs given) last wide lawful small few (ran_join from r);
      }

  take_front : (front bs : List Answer) → take (length front) (front ++ bs) ≡ front
  take_front [] bs = refl
  take_front (a ∷ front) bs = ap (λ (l : List Answer). a ∷ l) (take_front front bs)

  pub answered : (st : State) (cs : List Call) (old now : List Answer) (k : ℕ) → k ≤ length cs → now ≡ answers size st (take k cs) ++ drop k old → take k now ≡ answers size st (take k cs)
  answered st cs old now k l e =
      let front = answers size st (take k cs) in
      let long : length front ≡ k = answers_length st (take k cs) ∙ length-take-le k cs l in
      ap (take k) e ∙ ap (λ (j : ℕ). take j (front ++ drop k old)) (sym long) ∙ take_front front (drop k old)
