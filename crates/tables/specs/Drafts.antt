-- What a draft holds.
use Rattle.std.specs.Prelude.{◌≡◌, ℕ, ◌+◌, ◌<◌, List, map, length, take, slice_index}
use Rattle.theory.specs.Flooding.{expected_up_to}
use Rattle.tables.specs.Wirings.{wired}
use Rattle.tables.specs.Entries.{entry_of}
use Rattle.tables.specs.declared.expected_path.ExpectedPath.{ExpectedPath}
use Rattle.tables.specs.declared.draft.Draft.{Draft}

-- the paths of a draft
abbrev pub drafted : Draft → List ExpectedPath
drafted d = take d.len d.entries

-- a draft holds what v expects along paths of at most k sites, and their counts
pub record Lists (n : ℕ) (near : List ℕ) (v k : ℕ) (d : Draft) : Type 0 where
  pub listed : drafted d ≡ map entry_of (expected_up_to (wired n near) v k)
  pub counted : (j : ℕ) → j < k + 1 → slice_index d.ends j ≡ length (expected_up_to (wired n near) v j)
