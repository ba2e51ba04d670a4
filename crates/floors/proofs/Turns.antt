-- Counting turns.
use Rattle.std.proofs.Common.{◌≡◌, ℕ, ◌-◌, ◌*◌, ◌/◌, ◌<◌, ◌≤◌, false, leb, length, sym, refl, ap, ◌∙◌, ⊎_elim, le-div_iff_mul-le, arith}
use Rattle.std.proofs.lemmas.Bool.{le-leb, leb-true, leb-false}
use Rattle.std.proofs.lemmas.Bool.Decides.{leb_tells}
use Rattle.sites.specs.Positions.{all_from}
use Rattle.sites.specs.Suspects.{suspects}
use Rattle.sites.proofs.Positions.{all_at}
use Rattle.plans.specs.Plans.{network}
use Rattle.sites.proofs.Table.{number, number_is}
use Rattle.plans.proofs.Wholes.{plan_sites, plan_rogues}
use Rattle.runs.specs.State.{last_turn}
use Rattle.site_plans.specs.declared.site_plan.SitePlan.{SitePlan}
use Rattle.floors.specs.Tables.{site_network}

-- so many whole phases are over exactly when all their turns are
pub whole_phases : (c t m : ℕ) → 0 < m → leb c (t / m) ≡ leb (c * m) t
whole_phases c t m l =
    ⊎_elim
    (λ h. h.0 ∙ sym (le-leb (c * m) t ((le-div_iff_mul-le {k = m} {x = c} {y = t} l).0 h.1)))
    (λ h. ⊎_elim
    (λ k. let up = (le-div_iff_mul-le {k = m} {x = c} {y = t} l).1 k.1 in absurd (omega (arith, h.1, up)))
    (λ k. h.0 ∙ sym k.0)
    (leb_tells (c * m) t))
    (leb_tells c (t / m))

-- a run has few turns
few : (n f : ℕ) → n < 7 → f < 3 → number n f * (n - 1) ≤ 200
few n f hn hf = leb-true (number n f * (n - 1)) 200 (all_at (λ f. leb (number n f * (n - 1)) 200) 0 3 (all_at (λ n. all_from (λ f. leb (number n f * (n - 1)) 200) 0 3) 0 7 refl n (omega arith) (omega arith)) f (omega arith) (omega arith))

pub few_turns : (p : SitePlan) (t : ℕ) → leb (last_turn (site_network p)) t ≡ false → t < 200
unfolding network
few_turns p t e =
    let n = (site_network p).n in
    let f = (site_network p).f in
    let hn : n < 7 = omega (arith, (plan_sites p.plan).1) in
    let hf : f < 3 = omega (arith, plan_rogues p.plan) in
    let a = few n f hn hf in
    let b : number n f * (n - 1) ≡ length (suspects n f) * (n - 1) = ap (λ (k : ℕ). k * (n - 1)) (number_is n f hn hf) in
    let c = leb-false (length (suspects n f) * (n - 1)) t e in
    omega (arith, a, b, c)
