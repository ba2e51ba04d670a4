-- A floor as its calls see it.
use Rattle.std.specs.Prelude.{ℕ, Bool, false, cond, not, ◌&&◌, List, map, Some, None, Ok, Err, Option, Result, nat_lt, slice_index_or}
use Rattle.sites.specs.declared.refusal.Refusal.{Refusal}
use Rattle.sites.specs.declared.refusal.Refusal.TheVariants.{Path as Unlawful}
use Rattle.sites.specs.Sets.{in_set}
use Rattle.theory.specs.Flooding.{Word}
use Rattle.airs.specs.Lanes.{Lanes}
use Rattle.theory.specs.Network.{Network}
use Rattle.plans.specs.Examples.{pair}
use Rattle.plans.specs.Plans.{sheet}
use Rattle.plans.specs.Taken.{network_of}
use Rattle.notebooks.specs.Notebooks.{empty_book, owed_words}
use Rattle.tables.specs.Tables.{table_network}
use Rattle.tables.specs.declared.table.PathTable.{PathTable}
use Rattle.runs.specs.State.{State, SiteRecord as Kept, blank}
use Rattle.site_plans.specs.declared.site_plan.SitePlan.{SitePlan}
use Rattle.floors.specs.declared.record.SiteRecord.{SiteRecord}
use Rattle.floors.specs.declared.record.Records.{Records}
use Rattle.floors.specs.declared.floor.Floor.{Floor}
use Rattle.floors.specs.Tables.{site_network}

-- what a record holds
abbrev pub seen : SiteRecord → Kept
seen r = record { holds = r.bit; spoken = r.spoken; notebook = r.notebook.words }

-- what the record of a site holds
abbrev pub record_at : Records → ℕ → Kept
record_at rs s = slice_index_or (map seen rs.sites) s blank

-- a record with a bit, and nothing heard or said
abbrev pub fresh : Bool → Kept
fresh bit = record { holds = bit; spoken = false; notebook = empty_book }

-- the words that a table's site owes in a round
abbrev pub owed_by : PathTable → ℕ → Kept → List ℕ
owed_by t round x = owed_words (table_network t) t.site round x.holds x.notebook

-- whether a site is below n and no rogue
abbrev pub sound_of : ℕ → ℕ → ℕ → Bool
sound_of n rogues s = nat_lt s n && not (in_set rogues s)

-- the state of a floor, of what it consists
abbrev pub state_of : SitePlan → ℕ → Records → Lanes → ℕ → State
state_of base rogues records lanes turns = record { net = site_network base; rogues = rogues; records = map seen records.sites; lanes = lanes; turns = turns }

-- the state of a floor; lanes tells what is on its air
abbrev pub view : {X : Type 0} → (X → Lanes) → Floor X → State
view lanes f = record {
  net = site_network f.ground.base;
  rogues = f.rogues.bits;
  records = map seen f.records.sites;
  lanes = lanes f.air;
  turns = f.turns;
}

-- the words of the plan that a floor was opened on
abbrev pub plan_sheet : {X : Type 0} → Floor X → List ℕ
plan_sheet f = sheet f.ground.base.plan

-- the network of the plan that is built in: two sites, none of them rogue
abbrev pub built_in : Network
built_in = network_of pair

-- 5 for a word that is no lawful flood word with bit 0
abbrev pub asks_reply : Option Word → Result (Unit {0}) Refusal
asks_reply None = Err Unlawful
asks_reply (Some w) = cond w.bit (Err Unlawful) (Ok tt)
