-- A table made from a plan's wiring serves the plan's network.
use Rattle.std.specs.Prelude.{◌≡◌, ℕ, ◌<◌, Bool, List}
use Rattle.theory.specs.Network.{Network}
use Rattle.notebooks.specs.Notebooks.{note_round, round_words, owed_words, noted, told_by}
use Rattle.tables.specs.Wirings.{SameEdges}

-- what is noted, put, recalled and told at a site of two networks with the same sites and edges is the same in both
pub record Alike (N M : Network) (v : ℕ) : Type 0 where
  pub noting : (r : ℕ) (hear : List ℕ → Bool) (book : List ℕ) → note_round N v r hear book ≡ note_round M v r hear book
  pub levels : (r : ℕ) (book : List ℕ) → round_words N v r book ≡ round_words M v r book
  pub owing : (r : ℕ) (held : Bool) (book : List ℕ) → owed_words N v r held book ≡ owed_words M v r held book
  pub recalling : (r : ℕ) (book p : List ℕ) → noted N v r book p ≡ noted M v r book p
  pub telling : (book p : List ℕ) → told_by N v book p ≡ told_by M v book p

abbrev pub AlikeLaw : Type 0
AlikeLaw = (N M : Network) (v : ℕ) → SameEdges N M → v < N.n → Alike N M v
