-- The entry of a path in a table.
use Rattle.std.specs.Prelude.{ℕ, false, List}
use Rattle.sites.specs.Lists.{front, final}
use Rattle.notebooks.specs.Floods.{flood_word}
use Rattle.tables.specs.declared.expected_path.ExpectedPath.{ExpectedPath}

-- the flood word of a path with bit 0
abbrev pub path_word : List ℕ → ℕ
path_word p = flood_word (record { path = p; bit = false })

abbrev pub entry_of : List ℕ → ExpectedPath
entry_of p = record { word = path_word p; front = path_word (front p); last = final p }

-- what stands for an entry past the end of a table
abbrev pub no_entry : ExpectedPath
no_entry = record { word = 0; front = 0; last = 0 }
