-- What a turn does to a record.
use Rattle.std.specs.Prelude.{ℕ, ◌+◌, ◌-◌, ◌/◌, ◌%◌, false, cond, List, ◌==◌}
use Rattle.theory.specs.Network.{Network}
use Rattle.theory.specs.Weighing.{weigh}
use Rattle.theory.specs.Runs.{suspect}
use Rattle.airs.specs.Lanes.{Lanes, lane}
use Rattle.notebooks.specs.Floods.{heard_in}
use Rattle.notebooks.specs.Notebooks.{take_round, told_by}
use Rattle.runs.specs.State.{SiteRecord as Kept}
use Rattle.tables.specs.Tables.{table_network}
use Rattle.tables.specs.declared.table.PathTable.{PathTable}

-- a notebook when its site has heard a round: the first round of a phase begins with an empty one
abbrev pub noting_in : Network → Lanes → ℕ → ℕ → List ℕ → List ℕ
noting_in N ls v round book = take_round N v round (heard_in (lane ls)) book

-- a record when its site has heard a round
abbrev pub noted_by : PathTable → Lanes → ℕ → Kept → Kept
noted_by t ls round x = record { holds = x.holds; spoken = false; notebook = noting_in (table_network t) ls t.site round x.notebook }

-- a record when its site has weighed
abbrev pub weighed_by : Network → PathTable → ℕ → Kept → Kept
weighed_by N t set x = record { holds = weigh N (told_by (table_network t) t.site x.notebook) set x.holds t.site; spoken = x.spoken; notebook = x.notebook }

-- the record of v after the turn that some turns came before: it has heard, and weighed where the round was the last of its phase
abbrev pub turned_by : Network → Lanes → ℕ → ℕ → Kept → Kept
turned_by N ls turns v x =
    let round : ℕ = turns % (N.n - 1) + 1 in
    let book : List ℕ = noting_in N ls v round x.notebook in
    record {
      holds = cond (round == N.n - 1) (weigh N (told_by N v book) (suspect N (turns / (N.n - 1))) x.holds v) x.holds;
      spoken = false;
      notebook = book;
    }
