use Rattle.site_plans.specs.Tables.{site_network}
use Rattle.site_plans.proofs.Made.{made_fits}
use Rattle.site_plans.proofs.site_plan.SitePlan.table.Goals as goal

pub returns : goal.returns
returns c = made_fits (site_network c.args.self.now) c.of.result c.of-2.result c.args.site c.of.ensures c.of-2.ensures.wiring c.of-2.ensures.site
