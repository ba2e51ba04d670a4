-- The network of a plan as its sites use it, and when a table is that of a site.
use Rattle.std.specs.Prelude.{◌≡◌, ℕ, ◌<◌, ◌≤◌, []}
use Rattle.theory.specs.Network.{Network}
use Rattle.theory.specs.Flooding.{expected}
use Rattle.plans.specs.Plans.{network}
use Rattle.tables.specs.Tables.{table_network, table_level, table_paths}
use Rattle.tables.specs.declared.table.PathTable.{PathTable}
use Rattle.site_plans.specs.declared.site_plan.SitePlan.{SitePlan}

-- the network of the plan
abbrev pub site_network : SitePlan → Network
site_network p = network p.plan

-- a table is that of s in a network: it lists the paths along which s expects a bit, and none where s is no site of the network
pub record Fits (N : Network) (s : ℕ) (t : PathTable) : Type 0 where
  pub site : t.site ≡ s
  pub count : (table_network t).n ≡ N.n
  pub levels : s < N.n → (k : ℕ) → table_level t k ≡ expected N s k
  pub none : N.n ≤ s → (k : ℕ) → table_paths t k ≡ []
