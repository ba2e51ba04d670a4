-- A list of calls in words, one call more.
use Rattle.std.proofs.Common.{◌≡◌, ℕ, zero, suc, ◌+◌, ◌*◌, ◌<◌, ◌≤◌, List, [], ◌∷◌, ◌++◌, length, get_or, drop, set, Some, None, Ok, Err, Option, Result, sym, refl, ap, ◌∙◌, append_assoc, mul-suc, add-one, arith}
use Rattle.std.proofs.lemmas.List.{drop_more, set_at, length-append}
use Rattle.sites.specs.declared.refusal.Refusal.{Refusal}
use Rattle.sheets.specs.declared.refusal.SheetRefusal.{SheetRefusal}
use Rattle.sheets.proofs.Passed.{sites_range}
use Rattle.plans.specs.Complete.{judged}
use Rattle.plans.proofs.Judged.{passes}
use Rattle.plans.proofs.Lawful.{network_lawful}
use Rattle.theory.specs.Network.{Network, Lawful}
use Rattle.runs.specs.declared.calls.Call.{Call}
use Rattle.runs.specs.State.{State, opened}
use Rattle.runs.specs.Replies.{open_reply}
use Rattle.runs.specs.Runs.{next, after}
use Rattle.runs.proofs.Guarantee.{guarantee_law}
use Rattle.runs.proofs.Laws.{open_law}
use Rattle.runs.proofs.Runs.{runs_so}
use Rattle.hosts.specs.declared.refused.HostRefusal.{HostRefusal}
use Rattle.hosts.specs.Answered.{then_by, by_engine}
use Rattle.hosts.specs.Sheets.{placeless, checked, sheet_network}
use Rattle.hosts.specs.Calls.{Pair, call_at, pair_for, state_for, with_call, calls_in, answers_in}
use Rattle.hosts.specs.Replays.{run_reply, answers_over, GuaranteedAfter}

after_one : (size : ℕ) (st : State) (cs : List Call) (c : Call) → after size st (cs ++ c ∷ []) ≡ next size (after size st cs) c
after_one size st [] c = refl
after_one size st (b ∷ cs) c = after_one size (next size st b) cs c

after_with : (size : ℕ) (st : State) (cs : List Call) (o : Option Call) → after size st (with_call cs o) ≡ state_for size (after size st cs) o
after_with size st cs (Some c) = after_one size st cs c
after_with size st cs None = refl

-- two words written behind some
two_written : (front old : List ℕ) (i a b : ℕ) → length front ≡ i → i + 2 ≤ length old → set (set (front ++ drop i old) i a) (i + 1) b ≡ (front ++ a ∷ b ∷ []) ++ drop (i + 2) old
two_written front old i a b long room =
    let fst : i < length old = omega arith in
    let snd : i + 1 < length old = omega arith in
    let one : set (front ++ drop i old) i a ≡ front ++ a ∷ drop (i + 1) old =
    ap (λ (x : List ℕ). set (front ++ x) i a) (drop_more old i 0 fst) ∙ set_at front _ _ a i long in
    let here : length (front ++ a ∷ []) ≡ i + 1 = length-append front (a ∷ []) ∙ omega (arith, long) in
    let join : front ++ a ∷ drop (i + 1) old ≡ (front ++ a ∷ []) ++ drop (i + 1) old = sym (append_assoc front (a ∷ []) (drop (i + 1) old)) in
    let next-drop : drop (i + 1) old ≡ get_or old (i + 1) 0 ∷ drop (i + 2) old = drop_more old (i + 1) 0 snd ∙ ap (λ (j : ℕ). get_or old (i + 1) 0 ∷ drop j old) (omega arith) in
    ap (λ (x : List ℕ). set x (i + 1) b) (one ∙ join ∙ ap (λ (x : List ℕ). (front ++ a ∷ []) ++ x) next-drop)
    ∙ set_at (front ++ a ∷ []) _ _ b (i + 1) here
    ∙ append_assoc front (a ∷ []) (b ∷ drop (i + 2) old)
    ∙ sym (append_assoc front (a ∷ b ∷ []) (drop (i + 2) old))

module _ (st : State) (ws : List ℕ) where
  answers_long : (k : ℕ) → length (answers_in 120 st ws k) ≡ 2 * k
  answers_long zero = refl
  answers_long (suc k) = length-append (answers_in 120 st ws k) _ ∙ omega (arith, answers_long k, mul-suc 2 k)

  pub state_more : (mid last : State) (k : ℕ) (o : Option Call) → mid ≡ after 120 st (calls_in ws k) → o ≡ call_at ws k → last ≡ state_for 120 mid o →
      last ≡ after 120 st (calls_in ws (k + 1))
  state_more mid last k o m is l =
      l ∙ ap (λ (s : State). state_for 120 s o) m ∙ ap (state_for 120 (after 120 st (calls_in ws k))) is
      ∙ sym (after_with 120 st (calls_in ws k) (call_at ws k)) ∙ ap (λ (j : ℕ). after 120 st (calls_in ws j)) (sym (add-one k))

  pub answers_more : (mid : State) (k : ℕ) (o : Option Call) (x : Pair) (old was : List ℕ) → mid ≡ after 120 st (calls_in ws k) → o ≡ call_at ws k → x ≡ pair_for 120 mid o →
      2 * (k + 1) ≤ length old → was ≡ answers_over st ws k old → set (set was (2 * k) x.number) (2 * k + 1) x.value ≡ answers_over st ws (k + 1) old
  answers_more mid k o x old was m is e room w =
      let y : Pair = pair_for 120 (after 120 st (calls_in ws k)) (call_at ws k) in
      let same : x ≡ y = e ∙ ap (λ (s : State). pair_for 120 s o) m ∙ ap (pair_for 120 (after 120 st (calls_in ws k))) is in
      let far : 2 * k + 2 ≤ length old = omega arith in
      ap (λ (v : List ℕ). set (set v (2 * k) x.number) (2 * k + 1) x.value) w
      ∙ ap (λ (p : Pair). set (set (answers_over st ws k old) (2 * k) p.number) (2 * k + 1) p.value) same
      ∙ two_written (answers_in 120 st ws k) old (2 * k) y.number y.value (answers_long k) far
      ∙ ap (λ (j : ℕ). answers_in 120 st ws (suc k) ++ drop j old) (omega arith)
      ∙ ap (λ (j : ℕ). answers_in 120 st ws j ++ drop (2 * (k + 1)) old) (sym (add-one k))

pub guaranteed : (N : Network) (rogues bits : ℕ) (ws : List ℕ) → Lawful N → N.n ≤ 6 → open_reply N rogues bits ≡ Ok tt → (k : ℕ) → GuaranteedAfter N rogues bits ws k
guaranteed N rogues bits ws lawful small ok k =
    guarantee_law 120 N rogues bits _ _ (omega arith) lawful small ((open_law N rogues bits (opened N rogues bits)).accepted ok).0 (runs_so 120 (calls_in ws k) (opened N rogues bits))

both_ok : (a : Result (Unit {0}) HostRefusal) (b : Result (Unit {0}) Refusal) → then_by a (λ _. by_engine b) ≡ Ok tt → (a ≡ Ok tt) × (b ≡ Ok tt)
both_ok (Ok x) (Ok y) e = (refl, refl)
both_ok (Ok x) (Err y) e = absurd (let z : ◌≡◌ {A = ℕ} 0 1 = cc in omega arith)
both_ok (Err x) b e = absurd (let z : ◌≡◌ {A = ℕ} 0 1 = cc in omega arith)

was_ok : (r : Result (Unit {0}) SheetRefusal) → placeless r ≡ Ok tt → r ≡ Ok tt
was_ok (Ok x) e = refl
was_ok (Err x) e = absurd (let z : ◌≡◌ {A = ℕ} 0 1 = cc in omega arith)

pub run_guaranteed : (ws : List ℕ) (rogues bits : ℕ) (calls : List ℕ) → run_reply ws rogues bits ≡ Ok tt → (k : ℕ) → GuaranteedAfter (sheet_network ws) rogues bits calls k
unfolding checked sheet_network
run_guaranteed ws rogues bits calls e =
    let ok = both_ok (checked ws) (open_reply (sheet_network ws) rogues bits) e in
    let whole = was_ok (judged ws) ok.0 in
    guaranteed (sheet_network ws) rogues bits calls (network_lawful ws whole) (sites_range ws (passes ws whole)).1 ok.1
