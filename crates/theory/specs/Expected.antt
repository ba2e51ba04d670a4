-- What the paths are along which a site expects a bit.
use Rattle.std.specs.Prelude.{◌≡◌, ℕ, ◌<◌, ◌≤◌, true, ◌⊎◌, List, [], ◌∷◌, length, slice_index_or}
use Rattle.std.specs.List.{AllByRecursion}
use Rattle.sites.specs.Lists.{In, Distinct, final}
use Rattle.theory.specs.Network.{Network, Linked}
use Rattle.theory.specs.Flooding.{expected, expected_up_to}

-- q is a path of k sites, all different, each joined to the next
pub record JoinedPath (N : Network) (k : ℕ) (q : List ℕ) : Type 0 where
  pub long : length q ≡ k
  pub sites : AllByRecursion (λ s. s < N.n) q
  pub distinct : Distinct q
  pub linked : Linked N q

-- q is such a path of one site or more, it ends at a neighbour of v, and it lacks v
pub record Expects (N : Network) (v k : ℕ) (q : List ℕ) : Type 0 where
  pub some : 0 < k
  pub path : JoinedPath N k q
  pub last : N.joined (final q) v ≡ true
  pub lacks : In v q → ⊥

-- p comes before q: where they first differ, p has the lower site, or ends
abbrev pub PathBefore : List ℕ → List ℕ → Type 0
PathBefore [] [] = ⊥
PathBefore [] (y ∷ ys) = Unit {0}
PathBefore (x ∷ xs) [] = ⊥
PathBefore (x ∷ xs) (y ∷ ys) = (x < y) ⊎ ((x ≡ y) × PathBefore xs ys)

-- p is noted before q: it is shorter, or as long and comes before it
abbrev pub NotedBefore : List ℕ → List ℕ → Type 0
NotedBefore p q = (length p < length q) ⊎ ((length p ≡ length q) × PathBefore p q)

-- the expected paths are exactly those of the rule, none twice, ascending; at most six sites expect at most 120 of one length and 325 in all
pub record ExpectedPaths (N : Network) (v : ℕ) : Type 0 where
  pub each : (k : ℕ) (q : List ℕ) → In q (expected N v k) → Expects N v k q
  pub every : (k : ℕ) (q : List ℕ) → Expects N v k q → In q (expected N v k)
  pub none_twice : (k : ℕ) → Distinct (expected N v k)
  pub ascending : (k i j : ℕ) → i < j → j < length (expected N v k) → PathBefore (slice_index_or (expected N v k) i []) (slice_index_or (expected N v k) j [])
  pub in_order : (k i j : ℕ) → i < j → j < length (expected_up_to N v k) → NotedBefore (slice_index_or (expected_up_to N v k) i []) (slice_index_or (expected_up_to N v k) j [])
  pub few : N.n ≤ 6 → v < N.n → (k : ℕ) → length (expected N v k) ≤ 120
  pub few_in_all : N.n ≤ 6 → v < N.n → (k : ℕ) → length (expected_up_to N v k) ≤ 325

abbrev pub ExpectedLaw : Type 0
ExpectedLaw = (N : Network) (v : ℕ) → ExpectedPaths N v
