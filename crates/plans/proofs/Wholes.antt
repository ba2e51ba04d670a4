-- What holds of every plan, since its sheet is complete.
use Rattle.std.proofs.Common.{◌≡◌, ℕ, ◌<◌, ◌≤◌, true, false, length, get_or, is_some, Some, Ok, sym, subst}
use Rattle.sites.specs.Sets.{in_set}
use Rattle.sheets.specs.Parts.{site_count, rogue_limit}
use Rattle.sheets.specs.Refusals.{well_formed}
use Rattle.sheets.proofs.Passed.{sheet_fits, sites_range, rogues_range}
use Rattle.words.specs.Words.{meaning}
use Rattle.theory.specs.Network.{Fan, Lawful}
use Rattle.plans.specs.declared.plan.Plan.{Plan}
use Rattle.plans.specs.Complete.{judged}
use Rattle.plans.specs.Plans.{sheet, network, Routes, FansAt}
use Rattle.plans.proofs.Judged.{is_judged, passes}
use Rattle.plans.specs.Taken.{route_taken}
use Rattle.plans.proofs.Taken.{route_word}
use Rattle.plans.proofs.Lawful.{network_lawful}

module _ (p : Plan) where
  pub plan_judged : judged (sheet p) ≡ Ok tt
  plan_judged = is_judged (sheet p) p.whole

  plan_passes : well_formed (sheet p) ≡ Ok tt
  plan_passes = passes (sheet p) plan_judged

  pub plan_fits : length (sheet p) ≤ 1024
  plan_fits = sheet_fits (sheet p) plan_passes

  pub plan_sites : (2 ≤ site_count (sheet p)) × (site_count (sheet p) ≤ 6)
  plan_sites = sites_range (sheet p) plan_passes

  pub plan_rogues : rogue_limit (sheet p) ≤ 2
  plan_rogues = rogues_range (sheet p) plan_passes

  pub plan_lawful : Lawful (network p)
  unfolding network
  plan_lawful = network_lawful (sheet p) plan_judged

  pub plan_route : (F u v : ℕ) → Routes (network p) F u v ((network p).route F u v)
  plan_route F u v s hu hv differ = plan_lawful.routes F u v s hu hv differ

  pub plan_fan : (F v A : ℕ) → FansAt (network p) F v A ((network p).fan F v A)
  plan_fan F v A Z s hv hz same out =
      subst (λ (x : ℕ). Fan (network p) F v x ((network p).fan F v x)) (sym same) (plan_lawful.fans F v Z s hv hz (subst (λ (x : ℕ). in_set x v ≡ false) same out))

  -- the place of the route taken lies in the sheet, and its word is lawful
  pub plan_route_word : (F u v i : ℕ) → route_taken (sheet p) F u v ≡ Some i → (i < length (sheet p)) × (length (sheet p) ≤ 1024) × (is_some (meaning (get_or (sheet p) i 0)) ≡ true)
  plan_route_word F u v i e = let q = route_word (sheet p) plan_judged F u v i e in (q.0, plan_fits, q.1)
