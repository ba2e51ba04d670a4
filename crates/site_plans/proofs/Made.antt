-- How a site's table is made, and the suspect set of a phase.
use Rattle.std.proofs.Common.{◌≡◌, ℕ, ◌≤◌, Bool, true, false, cond, ltb, length, get_or, Some, None, Option, sym, refl, ap, ◌∙◌, arith}
use Rattle.std.proofs.lemmas.List.{get_or_past}
use Rattle.std.proofs.lemmas.Bool.Decides.{nat_tests}
use Rattle.std.specs.Prelude.{option_map, unwrap_or}
use Rattle.sites.specs.declared.mask.SiteMask.{SiteMask}
use Rattle.sites.specs.Suspects.{suspects}
use Rattle.theory.specs.Network.{Network}
use Rattle.theory.specs.Flooding.{expected}
use Rattle.theory.specs.Runs.{suspect}
use Rattle.plans.specs.Plans.{network}
use Rattle.plans.proofs.Wholes.{plan_sites}
use Rattle.tables.specs.Tables.{network_of}
use Rattle.tables.specs.Wirings.{SameEdges}
use Rattle.tables.specs.declared.table.PathTable.{PathTable}
use Rattle.tables.specs.declared.wiring.Wiring.{Wiring}
use Rattle.tables.proofs.Edges.{edges_law}
use Rattle.tables.proofs.Listed.{up_to_strange}
use Rattle.site_plans.specs.declared.site_plan.SitePlan.{SitePlan}
use Rattle.site_plans.specs.Tables.{site_network, Fits}

pub base_few : (p : SitePlan) → (site_network p).n ≤ 6
unfolding network
base_few p = (plan_sites p.plan).1

pub base_some : (p : SitePlan) → 2 ≤ (site_network p).n
unfolding network
base_some p = (plan_sites p.plan).0

-- a table made from a wiring with the network's sites and edges
pub made_fits : (N : Network) (w : Wiring) (t : PathTable) (s : ℕ) → SameEdges N (network_of w) → t.wiring ≡ w → t.site ≡ s → Fits N s t
made_fits N w t s same from at = record {
  site = at;
  count = ap (λ (x : Wiring). x.n) from ∙ sym same.sites;
  levels = λ l k. ap (λ (x : Wiring). expected (network_of x) t.site k) from ∙ ap (λ (v : ℕ). expected (network_of w) v k) at ∙ sym (edges_law N (network_of w) s k same l).0;
  none = λ l k. up_to_strange t.wiring.n t.wiring.near t.site t.wiring.few t.wiring.below (omega (arith, ap (λ (x : Wiring). x.n) from, same.sites)) k;
}

-- ---- the suspect set of a phase

some_cond : (b : Bool) (x y : ℕ) → Some x ≡ cond b (Some y) None → x ≡ y
some_cond true x y e = cc
some_cond false x y e = absurd (let z : ◌≡◌ {A = ℕ} 0 1 = cc in omega arith)

none_cond : (b : Bool) (y : ℕ) → None ≡ cond b (Some y) None → b ≡ false
none_cond true y e = absurd (let z : ◌≡◌ {A = ℕ} 0 1 = cc in omega arith)
none_cond false y e = refl

pub suspect_some : (N : Network) (p x : ℕ) → Some x ≡ cond (ltb p (length (suspects N.n N.f))) (Some (get_or (suspects N.n N.f) p 0)) None → x ≡ suspect N p
unfolding suspect
suspect_some N p x e = some_cond (ltb p (length (suspects N.n N.f))) x (get_or (suspects N.n N.f) p 0) e

pub suspect_none : (N : Network) (p : ℕ) → None ≡ cond (ltb p (length (suspects N.n N.f))) (Some (get_or (suspects N.n N.f) p 0)) None → 0 ≡ suspect N p
unfolding suspect
suspect_none N p e =
    let past : length (suspects N.n N.f) ≤ p = let b = none_cond (ltb p (length (suspects N.n N.f))) _ e in grind (arith, nat_tests) in
    sym (get_or_past (suspects N.n N.f) p 0 past)

-- of the plan's answer, the empty set in the place of none
pub suspect_or : (N : Network) (p : ℕ) (o : Option SiteMask) → option_map (λ (m : SiteMask). m.bits) o ≡ cond (ltb p (length (suspects N.n N.f))) (Some (get_or (suspects N.n N.f) p 0)) None →
    (unwrap_or o (record { bits = 0 })).bits ≡ suspect N p
suspect_or N p (Some m) e = suspect_some N p m.bits e
suspect_or N p None e = suspect_none N p e
