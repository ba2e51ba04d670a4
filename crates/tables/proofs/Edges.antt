-- Networks with the same sites and edges have the same paths.
use Rattle.std.proofs.Common.{◌≡◌, ℕ, zero, suc, ◌<◌, Bool, cond, not, ◌&&◌, List, [], ◌∷◌, ◌++◌, map, filter, refl, ap, ◌∙◌, inl, inr, arith}
use Rattle.std.specs.List.{AllByRecursion, range_with_len}
use Rattle.sites.specs.Lists.{In, has, final, join_all}
use Rattle.sites.proofs.Lists.{map_same, counting_below, final_all}
use Rattle.theory.specs.Network.{Network}
use Rattle.theory.specs.Flooding.{goes_on, longer, paths, expected, expected_up_to}
use Rattle.theory.specs.Expected.{JoinedPath}
use Rattle.theory.proofs.Paths.{paths_are}
use Rattle.tables.specs.Wirings.{SameEdges}
use Rattle.tables.specs.Laws.{EdgesLaw}

kept_same : {X : Type 0} (t u : X → Bool) (xs : List X) → ((x : X) → In x xs → t x ≡ u x) → filter t xs ≡ filter u xs
kept_same t u [] h = refl
kept_same t u (x ∷ xs) h =
    ap (λ b. cond b (x ∷ filter t xs) (filter t xs)) (h x (inl refl))
    ∙ ap (λ r. cond (u x) (x ∷ r) r) (kept_same t u xs (λ y i. h y (inr i)))

module _ (N M : Network) (same : SameEdges N M) where
  goes_same : (p : List ℕ) (s : ℕ) → AllByRecursion (λ x. x < N.n) p → s < N.n → goes_on N p s ≡ goes_on M p s
  goes_same [] s a l = refl
  goes_same (x ∷ xs) s a l = ap (λ b. b && not (has s (x ∷ xs))) (same.edges (final (x ∷ xs)) s (final_all (λ x. x < N.n) x xs a) l)

  longer_same : (p : List ℕ) → AllByRecursion (λ x. x < N.n) p → longer N p ≡ longer M p
  unfolding longer
  longer_same p a =
      ap (map (λ s. p ++ s ∷ []))
      (kept_same (goes_on N p) (goes_on M p) (range_with_len 0 N.n) (λ s i. goes_same p s a (omega (arith, counting_below 0 N.n s i)))
      ∙ ap (λ x. filter (goes_on M p) (range_with_len 0 x)) same.sites)

  paths_same : (k : ℕ) → paths N k ≡ paths M k
  unfolding paths
  paths_same zero = refl
  paths_same (suc k) =
      ap join_all (map_same (longer N) (longer M) (paths N k) (λ p i. longer_same p (paths_are N k p i).sites) ∙ ap (map (longer M)) (paths_same k))

  last_below : (k : ℕ) (p : List ℕ) → JoinedPath N (suc k) p → final p < N.n
  last_below k [] j = absurd (omega (arith, j.long))
  last_below k (x ∷ xs) j = final_all (λ x. x < N.n) x xs j.sites

  module _ (v : ℕ) (below : v < N.n) where
    expected_same : (k : ℕ) → expected N v k ≡ expected M v k
    unfolding expected
    expected_same zero = refl
    expected_same (suc k) =
        kept_same (λ p. N.joined (final p) v && not (has v p)) (λ p. M.joined (final p) v && not (has v p)) (paths N (suc k))
        (λ p i. ap (λ b. b && not (has v p)) (same.edges (final p) v (last_below k p (paths_are N (suc k) p i)) below))
        ∙ ap (filter (λ p. M.joined (final p) v && not (has v p))) (paths_same (suc k))

    up_to_same : (k : ℕ) → expected_up_to N v k ≡ expected_up_to M v k
    unfolding expected_up_to
    up_to_same zero = refl
    up_to_same (suc k) = ap (λ (x : List (List ℕ)). x ++ expected N v (suc k)) (up_to_same k) ∙ ap (λ x. expected_up_to M v k ++ x) (expected_same (suc k))

pub edges_law : EdgesLaw
edges_law N M v k same below = (expected_same N M same v below k, up_to_same N M same v below k)
