-- A test by which a network can be seen to be lawful.
use Rattle.std.specs.Prelude.{◌≡◌, ℕ, suc, ◌^◌, Bool, true, false, not, ◌&&◌, ◌||◌, List, [], ◌∷◌, length, ◌==◌, nat_le, nat_lt}
use Rattle.std.specs.List.{range_with_len}
use Rattle.sites.specs.Sets.{in_set}
use Rattle.sites.specs.Lists.{has, front, final}
use Rattle.sites.specs.Suspects.{suspects}
use Rattle.sites.specs.Keepers.{keepers}
use Rattle.theory.specs.Network.{Network, Lawful}

-- whether each element passes a test
abbrev pub every : {X : Type 0} → (X → Bool) → List X → Bool
every t [] = true
every t (x ∷ xs) = t x && every t xs

-- whether no site stands twice
abbrev pub distinct? : List ℕ → Bool
distinct? [] = true
distinct? (x ∷ xs) = not (has x xs) && distinct? xs

-- whether an edge joins each site to the next
abbrev pub linked? : Network → List ℕ → Bool
linked? N [] = true
linked? N (x ∷ []) = true
linked? N (x ∷ y ∷ r) = N.joined x y && linked? N (y ∷ r)

-- whether a path is a way from u to v that avoids F
unfoldable pub way? : Network → ℕ → ℕ → ℕ → List ℕ → Bool
way? N F u v [] = false
way? N F u v (x ∷ []) = false
way? N F u v (x ∷ y ∷ r) =
    (x == u && final (y ∷ r) == v)
    && ((every (λ s. nat_lt s N.n) (x ∷ y ∷ r) && distinct? (x ∷ y ∷ r)) && (linked? N (x ∷ y ∷ r) && every (λ s. not (in_set F s)) (front (y ∷ r))))

-- whether no two of the paths share a site other than v
abbrev pub apart? : ℕ → List (List ℕ) → Bool
apart? v [] = true
apart? v (p ∷ ps) = every (λ q. every (λ s. not (has s q) || s == v) p) ps && apart? v ps

-- the first site of a path
abbrev pub source : List ℕ → ℕ
source [] = 0
source (x ∷ xs) = x

-- whether some paths are a fan at v from A that avoids F
unfoldable pub fan? : Network → ℕ → ℕ → ℕ → List (List ℕ) → Bool
fan? N F v A ps = length ps == suc N.f && (every (λ p. in_set A (source p) && way? N F (source p) v p) ps && apart? v ps)

-- whether there is a route between any two sites
unfoldable pub routes? : Network → ℕ → Bool
routes? N F = every (λ u. every (λ v. (u == v) || way? N F u v (N.route F u v)) (range_with_len 0 N.n)) (range_with_len 0 N.n)

-- whether there is a fan at each site that some Z puts into B
unfoldable pub fans? : Network → ℕ → Bool
fans? N F =
    every (λ v. every (λ Z. in_set (keepers N.n N.f F Z) v || fan? N F v (keepers N.n N.f F Z) (N.fan F v (keepers N.n N.f F Z))) (range_with_len 0 (2 ^ N.n))) (range_with_len 0 N.n)

-- whether there are these for every suspect set
unfoldable pub complete? : Network → Bool
complete? N = nat_le 2 N.n && every (λ F. routes? N F && fans? N F) (suspects N.n N.f)

-- a network that passes is lawful
abbrev pub CompleteLaw : Type 0
CompleteLaw = (N : Network) → complete? N ≡ true → Lawful N
