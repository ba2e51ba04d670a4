use Rattle.std.proofs.Common.{rules, tests, ◌||◌, eqb, is_some}
use Rattle.sites.specs.Positions.{all_from}
use Rattle.sheets.specs.Parts.{site_count}
use Rattle.plans.specs.Complete.{route_place}
use Rattle.plans.proofs.Chains.{all_counted}
use Rattle.plans.proofs.checked.Checked.is_routed.Goals as goal

pub returns : goal.returns
returns c =
    let ws = c.args.self.now.words.now in
    all_counted (λ u. all_from (λ v. eqb u v || is_some (route_place ws c.args.set.bits u v)) 0 (site_count ws)) (site_count ws) _ _ c.all.result c.all.ensures.ran (cc) (λ x b q k. search (rules, tests))
