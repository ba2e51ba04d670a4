-- A wiring as a network, and networks with the same sites and edges.
use Rattle.std.specs.Prelude.{◌≡◌, ℕ, ◌<◌, List, [], slice_index}
use Rattle.sites.specs.Sets.{in_set}
use Rattle.theory.specs.Network.{Network}

-- the network of n sites and the neighbours of each, as masks; it has no routes and no fans, which do not occur in what a site expects
abbrev pub wired : ℕ → List ℕ → Network
wired n near = record {
  n = n;
  f = 0;
  joined = λ u s. in_set (slice_index near u) s;
  route = λ F u v. [];
  fan = λ F v A. [];
}

-- two networks have the same sites, and the same edges between them
pub record SameEdges (N M : Network) : Type 0 where
  pub sites : N.n ≡ M.n
  pub edges : (u s : ℕ) → u < N.n → s < N.n → N.joined u s ≡ M.joined u s
