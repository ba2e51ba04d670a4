-- Origin, agreement where a phase's suspect set holds every rogue, and both after any number of turns.
use Rattle.std.proofs.Common.{◌≡◌, ℕ, zero, suc, ◌-◌, ◌/◌, ◌<◌, ◌≤◌, Bool, true, sym, refl, ◌∙◌, subst, ⊎_elim, suc-mul, arith}
use Rattle.std.proofs.lemmas.Bool.{cases_eq}
use Rattle.std.proofs.lemmas.Nat.{div-add-mod', le-div}
use Rattle.sites.specs.Sets.{in_set}
use Rattle.sites.specs.Suspects.{suspects}
use Rattle.sites.proofs.Lists.{place_of}
use Rattle.sites.proofs.Suspects.{in_suspects}
use Rattle.theory.specs.Network.{Network}
use Rattle.theory.specs.Flooding.{Said}
use Rattle.theory.specs.Runs.{phases, suspect, start, held, holds, Sound, Run, Covers}
use Rattle.theory.specs.Laws.{PhaseLaw, SettledLaw, CoverLaw, AgreementLaw, TurnsLaw}
use Rattle.theory.proofs.Phases.{phase_origin, phase_agrees}

pub phase_law : PhaseLaw
phase_law N rogues opening said turns p v run over h = phase_origin N rogues opening said turns run p over v h

-- the phase whose suspect set is the rogues
pub cover_law : CoverLaw
unfolding suspect
cover_law N rogues r =
    let at = place_of (suspects N.n N.f) rogues 0 (in_suspects N.n N.f rogues r.below r.few) in
    (at.0, at.1, λ s _ e. subst (λ (m : ℕ). in_set m s ≡ true) (sym at.2) e)

module _ (N : Network) (rogues : ℕ) (opening : ℕ → Bool) (said : Said) (turns : ℕ) (run : Run N rogues opening said turns) where
  origin : (q v : ℕ) → start N q ≤ turns → Sound N rogues v → (u : ℕ) × Sound N rogues u × (held N said opening q v ≡ opening u)
  unfolding held
  origin zero v l h = (v, h, refl)
  origin (suc q) v l h =
      let one = phase_origin N rogues opening said turns run q l v h in
      let rest = origin q one.0 (omega (arith, suc-mul q (N.n - 1))) one.1 in
      (rest.0, rest.1, one.2 ∙ rest.2)

  settled : (p : ℕ) → Covers N rogues p → (q v w : ℕ) → p < q → start N q ≤ turns → Sound N rogues v → Sound N rogues w → held N said opening q v ≡ held N said opening q w
  settled p c zero v w l k h g = absurd (omega arith)
  settled p c (suc q) v w l k h g = ⊎_elim
      (λ (e : p ≡ q). let d : Covers N rogues q = subst (λ (x : ℕ). Covers N rogues x) e c in
      phase_agrees N rogues opening said turns run q k d v h ∙ sym (phase_agrees N rogues opening said turns run q k d w g))
      (λ e. let a = phase_origin N rogues opening said turns run q k v h in
      let b = phase_origin N rogues opening said turns run q k w g in
      a.2 ∙ settled p c q a.0 b.0 (omega arith) (omega (arith, suc-mul q (N.n - 1))) a.1 b.1 ∙ sym b.2)
      (cases_eq p q)

  -- the phases that are over are within the turns
  over : start N (turns / (N.n - 1)) ≤ turns
  over = omega (arith, div-add-mod' turns (N.n - 1))

  done : (q : ℕ) → start N q ≤ turns → q ≤ turns / (N.n - 1)
  done q l = le-div q turns (N.n - 1) (omega (arith, run.lawful.least)) l

pub settled_law : SettledLaw
settled_law N rogues opening said turns p q v w run c l k h g = settled N rogues opening said turns run p c q v w l k h g

pub agreement_law : AgreementLaw
agreement_law N rogues opening said turns run l = record {
  agreement = λ v w h g.
      let c = cover_law N rogues run.rogue_set in
      settled N rogues opening said turns run c.0 c.2 (phases N) v w c.1 l h g;
  origin = λ v h. origin N rogues opening said turns run (phases N) v l h;
}

pub turns_law : TurnsLaw
unfolding holds
turns_law N rogues opening said turns run = record {
  origin = λ v h. origin N rogues opening said turns run (turns / (N.n - 1)) v (over N rogues opening said turns run) h;
  settled = λ p v w c l h g.
      settled N rogues opening said turns run p c (turns / (N.n - 1)) v w (done N rogues opening said turns run (suc p) l) (over N rogues opening said turns run) h g;
  agreement = λ v w l h g.
      let c = cover_law N rogues run.rogue_set in
      let k : phases N ≤ turns / (N.n - 1) = done N rogues opening said turns run (phases N) l in
      settled N rogues opening said turns run c.0 c.2 (turns / (N.n - 1)) v w (omega (arith, c.1)) (over N rogues opening said turns run) h g;
}
