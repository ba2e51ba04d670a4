use Rattle.std.proofs.Common.{ap, ◌∙◌}
use Rattle.sites.specs.declared.mask.SiteMask.{SiteMask}
use Rattle.site_plans.specs.Tables.{site_network}
use Rattle.site_plans.proofs.Made.{suspect_or}
use Rattle.site_plans.proofs.site_plan.SitePlan.suspect.Goals as goal

pub returns : goal.returns
returns c = ap (λ (m : SiteMask). m.bits) c.unwrap_or.ensures ∙ suspect_or (site_network c.args.self.now) c.args.phase c.suspect.result c.suspect.ensures
