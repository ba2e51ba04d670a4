use Rattle.std.proofs.Common.{rules, tests, ◌^◌, ◌||◌, is_some}
use Rattle.sites.specs.Positions.{all_from}
use Rattle.sites.specs.Sets.{in_set}
use Rattle.sheets.specs.Parts.{site_count}
use Rattle.plans.specs.Complete.{fan_place, keeping}
use Rattle.plans.proofs.Chains.{all_counted}
use Rattle.plans.proofs.checked.Fans.is_fanned.Goals as goal

pub returns : goal.returns
returns c =
    let ws = c.args.self.now.sheet.words.now in
    all_counted (λ v. all_from (λ Z. in_set (keeping ws c.args.set.bits Z) v || is_some (fan_place ws c.args.set.bits v (keeping ws c.args.set.bits Z))) 0 (2 ^ site_count ws)) (site_count ws) _ _ c.all.result c.all.ensures.ran (cc)
    (λ x b q k. search (rules, tests))
