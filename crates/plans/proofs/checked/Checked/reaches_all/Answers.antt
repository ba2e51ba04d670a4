use Rattle.std.proofs.Common.{rules, tests, ◌||◌, eqb, is_some}
use Rattle.sheets.specs.Parts.{site_count}
use Rattle.plans.specs.Complete.{route_place}
use Rattle.plans.proofs.Chains.{all_counted}
use Rattle.plans.proofs.checked.Checked.reaches_all.Goals as goal

pub returns : goal.returns
returns c =
    let ws = c.args.self.now.words.now in
    all_counted (λ v. eqb c.args.from v || is_some (route_place ws c.args.set.bits c.args.from v)) (site_count ws) _ _ c.all.result c.all.ensures.ran (cc) (λ x b q k. search (rules, tests))
