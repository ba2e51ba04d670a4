-- What the notebooks are about, turn by turn.
use Rattle.std.proofs.Common.{◌≡◌, ℕ, zero, suc, ◌+◌, ◌-◌, ◌/◌, ◌%◌, ◌≤◌, eqb, sym, ap, ◌∙◌, ⊎_elim, arith}
use Rattle.std.proofs.lemmas.Bool.{ne_eqb, cases_eq, cond-false}
use Rattle.std.proofs.lemmas.Nat.{div-add-mod'}
use Rattle.theory.specs.Network.{Network}
use Rattle.theory.proofs.Rounds.{inside, across}
use Rattle.runs.specs.State.{phase_noted, rounds_noted}

module _ (N : Network) (t : ℕ) where
  -- after a turn they are about its phase, up to its round
  pub phase_after : phase_noted N (t + 1) ≡ t / (N.n - 1)
  phase_after = let e : t + 1 - 1 ≡ t = omega arith in ap (λ (x : ℕ). x / (N.n - 1)) e

  pub rounds_after : rounds_noted N (t + 1) ≡ t % (N.n - 1) + 1
  rounds_after =
      let e : t + 1 - 1 ≡ t = omega arith in
      cond-false (eqb (t + 1) 0) 0 ((t + 1 - 1) % (N.n - 1) + 1) (ne_eqb (t + 1) 0 (λ z. omega arith)) ∙ ap (λ (x : ℕ). x % (N.n - 1) + 1) e

-- within a phase they are about this phase, up to the round before
module _ (N : Network) (least : 2 ≤ N.n) where
  pub phase_within : (t : ℕ) → (t % (N.n - 1) ≡ 0 → ⊥) → phase_noted N t ≡ t / (N.n - 1)
  phase_within zero d = absurd (d (omega (arith, div-add-mod' 0 (N.n - 1))))
  phase_within (suc t) d =
      let one : suc t ≡ t + 1 = omega arith in
      ⊎_elim
      (λ (e : t % (N.n - 1) + 1 ≡ N.n - 1). absurd (d (across (N.n - 1) t (omega arith) e).1))
      (λ e. ap (phase_noted N) one ∙ phase_after N t ∙ sym (inside (N.n - 1) t (omega arith) e).0)
      (cases_eq (t % (N.n - 1) + 1) (N.n - 1))

  pub rounds_within : (t : ℕ) → (t % (N.n - 1) ≡ 0 → ⊥) → rounds_noted N t ≡ t % (N.n - 1)
  rounds_within zero d = absurd (d (omega (arith, div-add-mod' 0 (N.n - 1))))
  rounds_within (suc t) d =
      let one : suc t ≡ t + 1 = omega arith in
      ⊎_elim
      (λ (e : t % (N.n - 1) + 1 ≡ N.n - 1). absurd (d (across (N.n - 1) t (omega arith) e).1))
      (λ e. ap (rounds_noted N) one ∙ rounds_after N t ∙ omega (arith, (inside (N.n - 1) t (omega arith) e).1))
      (cases_eq (t % (N.n - 1) + 1) (N.n - 1))
