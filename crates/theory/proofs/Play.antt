-- For any words of the rogues there is exactly one run.
use Rattle.std.proofs.Common.{◌≡◌, ℕ, zero, suc, ◌<◌, ◌≤◌, Bool, true, cond, eqb, sym, refl, ◌∙◌, subst, ⊎_elim, arith}
use Rattle.std.proofs.lemmas.Bool.{eq-eqb, ne_eqb, cases_eq, cases_Bool, cond-true, cond-false}
use Rattle.sites.specs.Sets.{in_set}
use Rattle.theory.specs.Network.{Network, Lawful}
use Rattle.theory.specs.Flooding.{Said}
use Rattle.theory.specs.Runs.{owes, Sound, history, play}
use Rattle.theory.specs.Laws.{SameBefore, Played, OneRunLaw}
use Rattle.theory.proofs.Past.{past_law}

module _ (N : Network) (rogues : ℕ) (opening : ℕ → Bool) (theirs : Said) where
  pub older : (t s v : ℕ) → s < t → history N rogues opening theirs t s v ≡ play N rogues opening theirs s v
  unfolding history play
  older zero s v l = absurd (omega arith)
  older (suc t) s v l = ⊎_elim
      (λ (e : s ≡ t). subst (λ (x : ℕ). history N rogues opening theirs (suc x) s v ≡ play N rogues opening theirs s v) e refl)
      (λ d. cond-false (eqb s t) _ (history N rogues opening theirs t s v) (ne_eqb s t d) ∙ older t s v (omega arith))
      (cases_eq s t)

  now_said : (t v : ℕ) → play N rogues opening theirs t v ≡ cond (in_set rogues v) (theirs t v) (owes N (history N rogues opening theirs t) opening t v)
  unfolding play history
  now_said t v = cond-true (eqb t t) _ (history N rogues opening theirs t t v) (eq-eqb t t refl)

  -- what the rogues say is theirs
  pub play_rogue : (t v : ℕ) → in_set rogues v ≡ true → play N rogues opening theirs t v ≡ theirs t v
  play_rogue t v e = now_said t v ∙ cond-true (in_set rogues v) (theirs t v) _ e

  -- what a sound site says is what it owes
  pub play_sound : Lawful N → (t v : ℕ) → Sound N rogues v → play N rogues opening theirs t v ≡ owes N (play N rogues opening theirs) opening t v
  play_sound lawful t v h =
      now_said t v
      ∙ cond-false (in_set rogues v) (theirs t v) _ h.1
      ∙ (past_law N opening (history N rogues opening theirs t) (play N rogues opening theirs) t v lawful h.0 (λ s w k _. older t s w k)).1

  module _ (turns : ℕ) (said other : Said) (a : Played N rogues opening theirs said turns) (b : Played N rogues opening theirs other turns) where
    same_till : (t : ℕ) → t ≤ turns → SameBefore N t said other
    same_till zero l s v k h = absurd (omega arith)
    same_till (suc t) l s v k h = ⊎_elim
        (λ (e : s ≡ t). subst (λ (x : ℕ). said x v ≡ other x v) (sym e) (⊎_elim
        (λ r. a.free t v (omega arith) r ∙ sym (b.free t v (omega arith) r))
        (λ r. a.run.honest t v (omega arith) (h, r)
        ∙ (past_law N opening said other t v a.run.lawful h (same_till t (omega arith))).1
        ∙ sym (b.run.honest t v (omega arith) (h, r)))
        (cases_Bool (in_set rogues v))))
        (λ d. same_till t (omega arith) s v (omega arith) h)
        (cases_eq s t)

pub one_run_law : OneRunLaw
one_run_law N rogues opening theirs lawful few = record {
  exists = λ turns. record {
    run = record { lawful = lawful; rogue_set = few; honest = λ t v l h. play_sound N rogues opening theirs lawful t v h };
    free = λ t v l e. play_rogue N rogues opening theirs t v e;
  };
  unique = λ turns said other a b. same_till N rogues opening theirs turns said other a b turns (omega arith);
}
