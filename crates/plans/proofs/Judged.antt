-- What a sheet that passes all eight rows has: a route and a fan for every suspect set.
use Rattle.std.proofs.Common.{◌≡◌, ℕ, ◌^◌, ◌<◌, ◌≤◌, Bool, true, false, not, ◌||◌, eqb, List, length, get_or, is_some, is_ok, Some, None, Ok, Err, Option, Result, refl, subst, ⊎_elim, arith}
use lib.Count.{ones}
use Rattle.std.specs.Option.{option_map}
use Rattle.std.proofs.lemmas.Bool.{or_cases, eqb-true, not-false, both_ways}
use Rattle.sites.specs.declared.refusal.Refusal.{Refusal}
use Rattle.sites.specs.declared.refusal.Refusal.TheVariants.{NoRoute, NoFan}
use Rattle.sites.specs.Positions.{all_from}
use Rattle.sites.specs.Sets.{in_set}
use Rattle.sites.proofs.Positions.{none_at, all_at}
use Rattle.sites.proofs.Lists.{place_of}
use Rattle.sites.proofs.Suspects.{in_suspects}
use Rattle.sheets.specs.declared.refusal.SheetRefusal.{SheetRefusal}
use Rattle.sheets.specs.Parts.{site_count, rogue_limit}
use Rattle.sheets.specs.Refusals.{told, and_then, well_formed}
use Rattle.plans.specs.Sheets.{complete?}
use Rattle.plans.specs.Complete.{judged, route_fault, missing_fan, first_set, sets, routed, fanned, keeping, route_place, fan_place}

-- a chain of rows passes only where each row finds nothing
both_pass : (refusal : Refusal) (o : Option ℕ) (r : Result (Unit {0}) SheetRefusal) → and_then (told refusal o) r ≡ Ok tt → (o ≡ None) × (r ≡ Ok tt)
both_pass refusal (Some k) r e = absurd (let z : ◌≡◌ {A = ℕ} 0 1 = cc in omega arith)
both_pass refusal None r e = (refl, e)

one_passes : (refusal : Refusal) (o : Option ℕ) → told refusal o ≡ Ok tt → o ≡ None
one_passes refusal (Some k) e = absurd (let z : ◌≡◌ {A = ℕ} 0 1 = cc in omega arith)
one_passes refusal None e = refl

chain_passes : (r s : Result (Unit {0}) SheetRefusal) → and_then r s ≡ Ok tt → (r ≡ Ok tt) × (s ≡ Ok tt)
chain_passes (Ok x) s e = (refl, e)
chain_passes (Err x) s e = absurd (let z : ◌≡◌ {A = ℕ} 0 1 = cc in omega arith)

mapped_none : (g : ℕ → ℕ) (o : Option ℕ) → option_map g o ≡ None → o ≡ None
mapped_none g (Some k) e = absurd (let z : ◌≡◌ {A = ℕ} 0 1 = cc in omega arith)
mapped_none g None e = refl

ok_is : (r : Result (Unit {0}) SheetRefusal) → is_ok r ≡ true → r ≡ Ok tt
ok_is (Ok x) e = refl
ok_is (Err x) e = absurd (both_ways false refl e)

-- a complete sheet is judged so
pub is_judged : (ws : List ℕ) → complete? ws ≡ true → judged ws ≡ Ok tt
is_judged ws e = ok_is (judged ws) e

module _ (ws : List ℕ) (ok : judged ws ≡ Ok tt) where
  pub passes : well_formed ws ≡ Ok tt
  passes = (chain_passes (well_formed ws) _ ok).0

  last_rows : and_then (told NoRoute (route_fault ws)) (told NoFan (missing_fan ws)) ≡ Ok tt
  last_rows = (chain_passes (well_formed ws) _ ok).1

  -- a test that no suspect set fails holds of each
  each_set : (t : ℕ → Bool) → first_set ws t ≡ None → (F : ℕ) → F < 2 ^ site_count ws → ones F ≤ rogue_limit ws → t F ≡ true
  each_set t e F below few =
      let q = place_of (sets ws) F 0 (in_suspects (site_count ws) (rogue_limit ws) F below few) in
      let h = none_at (λ k. not (t (get_or (sets ws) k 0))) 0 (length (sets ws)) (mapped_none (λ k. get_or (sets ws) k 0) _ e) q.0 (omega arith) (omega (arith, q.1)) in
      subst (λ (x : ℕ). t x ≡ true) q.2 (not-false (t (get_or (sets ws) q.0 0)) h)

  pub route_there : (F u v : ℕ) → F < 2 ^ site_count ws → ones F ≤ rogue_limit ws → u < site_count ws → v < site_count ws → (u ≡ v → ⊥) → is_some (route_place ws F u v) ≡ true
  route_there F u v below few hu hv differ =
      let a = each_set (routed ws) (both_pass NoRoute (route_fault ws) _ last_rows).0 F below few in
      let b = all_at (λ u. all_from (λ v. eqb u v || is_some (route_place ws F u v)) 0 (site_count ws)) 0 (site_count ws) a u (omega arith) (omega arith) in
      let c = all_at (λ v. eqb u v || is_some (route_place ws F u v)) 0 (site_count ws) b v (omega arith) (omega arith) in
      ⊎_elim (λ e. absurd (differ (eqb-true u v e))) (λ e. e) (or_cases (eqb u v) (is_some (route_place ws F u v)) c)

  pub fan_there : (F v Z : ℕ) → F < 2 ^ site_count ws → ones F ≤ rogue_limit ws → v < site_count ws → Z < 2 ^ site_count ws → in_set (keeping ws F Z) v ≡ false →
      is_some (fan_place ws F v (keeping ws F Z)) ≡ true
  fan_there F v Z below few hv hz out =
      let a = each_set (fanned ws) (one_passes NoFan (missing_fan ws) (both_pass NoRoute (route_fault ws) _ last_rows).1) F below few in
      let b = all_at (λ v. all_from (λ Z. in_set (keeping ws F Z) v || is_some (fan_place ws F v (keeping ws F Z))) 0 (2 ^ site_count ws)) 0 (site_count ws) a v (omega arith) (omega arith) in
      let c = all_at (λ Z. in_set (keeping ws F Z) v || is_some (fan_place ws F v (keeping ws F Z))) 0 (2 ^ site_count ws) b Z (omega arith) (omega arith) in
      ⊎_elim (λ e. absurd (both_ways (in_set (keeping ws F Z) v) out e)) (λ e. e) (or_cases (in_set (keeping ws F Z) v) (is_some (fan_place ws F v (keeping ws F Z))) c)
