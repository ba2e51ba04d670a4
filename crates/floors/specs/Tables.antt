-- The network of a plan as its sites use it, and what a table is made from.
use Rattle.std.specs.Prelude.{ℕ, Bool, true, false, ◌&&◌, List, [], ◌∷◌}
use Rattle.sites.specs.Lists.{same_path}
use Rattle.tables.specs.Tables.{table_level}
use Rattle.tables.specs.declared.table.PathTable.{PathTable}
pub use Rattle.site_plans.specs.Tables.{site_network, Fits}

-- the site of a table
abbrev pub table_site : PathTable → ℕ
table_site t = t.site

-- how many sites its network has
abbrev pub table_count : PathTable → ℕ
table_count t = t.wiring.n

-- the paths of k sites in it
abbrev pub level_at : ℕ → PathTable → List (List ℕ)
level_at k t = table_level t k

-- whether two lists of paths are the same
abbrev pub same_paths : List (List ℕ) → List (List ℕ) → Bool
same_paths [] [] = true
same_paths [] (q ∷ qs) = false
same_paths (p ∷ ps) [] = false
same_paths (p ∷ ps) (q ∷ qs) = same_path p q && same_paths ps qs
