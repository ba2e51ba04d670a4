-- What a wiring and a table mean.
use Rattle.std.specs.Prelude.{ℕ, cond, List, Some, None, Option}
use Rattle.theory.specs.Network.{Network}
use Rattle.theory.specs.Flooding.{expected, expected_up_to}
use Rattle.notebooks.specs.Notebooks.{listed, place}
use Rattle.tables.specs.Wirings.{wired}
use Rattle.tables.specs.declared.wiring.Wiring.{Wiring}
use Rattle.tables.specs.declared.table.PathTable.{PathTable}

-- the network of a wiring
abbrev pub network_of : Wiring → Network
network_of w = wired w.n w.near

-- the network whose sites and edges a table is made from
abbrev pub table_network : PathTable → Network
table_network t = network_of t.wiring

-- the paths of k sites along which the site of a table expects a bit, ascending
abbrev pub table_level : PathTable → ℕ → List (List ℕ)
table_level t k = expected (table_network t) t.site k

-- those of at most k sites, in notebook order
abbrev pub table_paths : PathTable → ℕ → List (List ℕ)
table_paths t k = expected_up_to (table_network t) t.site k

-- the place of a path among some, if it is there
abbrev pub place_in : List ℕ → List (List ℕ) → Option ℕ
place_in p qs = cond (listed p qs) (Some (place p qs)) None
