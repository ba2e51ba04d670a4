use Rattle.std.proofs.Common.{◌<◌, arith}
use Rattle.site_plans.proofs.Made.{base_few}
use Rattle.floors.proofs.Six.{table_fits}
use Rattle.floors.proofs.ground.Ground.table.Goals as goal

pub returns : goal.returns
returns c =
    let g = c.args.self.now in
    let s = c.args.site in
    let lt : s < 6 = omega (arith, c.requires, base_few g.base) in
    table_fits g.base g.tables s c.index-self-site.result g.six c.requires lt (g.placed s lt) (g.counted s lt) (λ k. g.listed s k c.requires)
