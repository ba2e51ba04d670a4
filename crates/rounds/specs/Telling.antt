-- What a notebook tells when all rounds of a phase were heard.
use Rattle.std.specs.Prelude.{ℕ, Bool, List}
use Rattle.notebooks.specs.Notebooks.{told_by}
use Rattle.tables.specs.Tables.{table_network}
use Rattle.rounds.specs.declared.phase.Heard.{Heard}

-- what the notebook of the table's site tells of a path
abbrev pub tells : Heard → List ℕ → Bool
tells h p = told_by (table_network h.table.now) h.table.now.site h.notebook.now.words p
