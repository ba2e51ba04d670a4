-- A network: its sites and edges, and the paths that its sites hear each other by.
use Rattle.std.specs.Prelude.{◌≡◌, ℕ, suc, ◌^◌, ◌<◌, ◌≤◌, Bool, true, false, List, [], ◌∷◌, ◌++◌, length, ◌≢◌, count_ones}
use Rattle.std.specs.List.{AllByRecursion}
use Rattle.sites.specs.Keepers.{keepers}
use Rattle.sites.specs.Sets.{in_set}
use Rattle.sites.specs.Lists.{In, Distinct}

pub record Network : Type 0 where
  -- how many sites there are; they are numbered from 0
  pub n : ℕ
  -- how many of them may be rogue
  pub f : ℕ
  -- whether the second site hears the first
  pub joined : ℕ → ℕ → Bool
  -- route F u v is the route taken from u to v where F is suspected
  pub route : ℕ → ℕ → ℕ → List ℕ
  -- fan F v A is the fan taken at v, from sources in A, where F is suspected
  pub fan : ℕ → ℕ → ℕ → List (List ℕ)

-- a set of at most f of the sites: one that may be all the rogues
pub record Suspect (N : Network) (F : ℕ) : Type 0 where
  pub below : F < 2 ^ N.n
  pub few : count_ones F ≤ N.f

-- an edge joins each site of a path to the next
abbrev pub Linked : Network → List ℕ → Type 0
Linked N [] = Unit {0}
Linked N (x ∷ []) = Unit {0}
Linked N (x ∷ y ∷ r) = (N.joined x y ≡ true) × Linked N (y ∷ r)

-- p goes from u to v along edges, over different sites, and none of those between its ends is in F
pub record Way (N : Network) (F u v : ℕ) (p : List ℕ) : Type 0 where
  pub inner : List ℕ
  pub is : p ≡ u ∷ (inner ++ v ∷ [])
  pub sites : AllByRecursion (λ s. s < N.n) p
  pub distinct : Distinct p
  pub linked : Linked N p
  pub avoids : AllByRecursion (λ s. in_set F s ≡ false) inner

-- no two of the paths share a site other than v
abbrev pub Apart : ℕ → List (List ℕ) → Type 0
Apart v [] = Unit {0}
Apart v (p ∷ ps) = AllByRecursion (λ q. (s : ℕ) → In s p → In s q → s ≡ v) ps × Apart v ps

-- f + 1 paths from sites of A to v that avoid F between their ends and share no other site
pub record Fan (N : Network) (F v A : ℕ) (ps : List (List ℕ)) : Type 0 where
  pub many : length ps ≡ suc N.f
  pub paths : AllByRecursion (λ p. (u : ℕ) × (in_set A u ≡ true) × Way N F u v p) ps
  pub apart : Apart v ps

-- For every suspect set F there is a route between any two sites, and a fan at each site that some set Z of sites with bit 0 puts into B, from sources in A: keepers gives A, and B is the rest. Nothing else is asked of n, f and the edges.
pub record Lawful (N : Network) : Type 0 where
  pub least : 2 ≤ N.n
  pub routes : (F u v : ℕ) → Suspect N F → u < N.n → v < N.n → (u ≢ v) → Way N F u v (N.route F u v)
  pub fans : (F v Z : ℕ) → Suspect N F → v < N.n → Z < 2 ^ N.n → in_set (keepers N.n N.f F Z) v ≡ false →
      Fan N F v (keepers N.n N.f F Z) (N.fan F v (keepers N.n N.f F Z))
