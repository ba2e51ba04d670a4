-- Only the sites and edges of a network tell what a site expects.
use Rattle.std.specs.Prelude.{◌≡◌, ℕ, ◌<◌}
use Rattle.theory.specs.Network.{Network}
use Rattle.theory.specs.Flooding.{expected, expected_up_to}
use Rattle.tables.specs.Wirings.{SameEdges}

-- a site of two networks with the same sites and edges expects the same paths in both
abbrev pub EdgesLaw : Type 0
EdgesLaw = (N M : Network) (v k : ℕ) → SameEdges N M → v < N.n →
    (expected N v k ≡ expected M v k) × (expected_up_to N v k ≡ expected_up_to M v k)
