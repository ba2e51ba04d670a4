-- How many paths a site expects a bit along.
use Rattle.std.proofs.Common.{◌≡◌, ℕ, zero, suc, ◌+◌, ◌-◌, ◌*◌, ◌<◌, ◌≤◌, Bool, true, false, cond, not, ◌&&◌, List, [], ◌∷◌, ◌++◌, map, length, filter, sym, refl, ap, ◌∙◌, inl, inr, ⊎_elim, suc-mul, zero-mul, arith, length-append}
use Rattle.std.specs.List.{AllByRecursion, range_with_len}
use Rattle.std.proofs.lemmas.List.{length-map}
use Rattle.std.proofs.lemmas.List.Elements.{filter-append}
use Rattle.std.proofs.lemmas.Nat.{mul-le}
use Rattle.std.proofs.lemmas.Bool.{both_ways, and_parts, not_from_true}
use Rattle.sites.specs.Lists.{In, Distinct, has, final, join_all}
use Rattle.sites.proofs.Lists.{all_in, in_left, in_right, has_in, has_out, lacks, in_mapped, kept_in, counting_below, distinct_kept, distinct_counting, distinct_beside, kept_fewer, kept_map, kept_none, sorted_at}
use Rattle.theory.specs.Network.{Network}
use Rattle.theory.specs.Flooding.{goes_on, longer, paths, expected, expected_up_to}
use Rattle.theory.specs.Expected.{JoinedPath, PathBefore, NotedBefore, ExpectedLaw}
use Rattle.theory.proofs.Paths.{goes_new, paths_are, expected_are, are_expected, sorted_expected, distinct_expected, sorted_up_to}

-- those of some paths that lack v
abbrev lack : ℕ → List (List ℕ) → List (List ℕ)
lack v ps = filter (λ p. not (has v p)) ps

-- the number of ways to choose k of the n - 1 other sites, in order
abbrev room : ℕ → ℕ → ℕ
room n zero = 1
room n (suc k) = room n k * (n - 1 - k)

room_more : (n m k : ℕ) → n ≤ m → room n k ≤ room m k
room_more n m zero l = omega arith
room_more n m (suc k) l = mul-le (room n k) (n - 1 - k) (room m k) (m - 1 - k) (room_more n m k l) (omega arith)

room_none : (k : ℕ) → room 6 (suc (suc (suc (suc (suc (suc k)))))) ≡ 0
room_none zero = refl
room_none (suc k) = let e : room 6 (suc (suc (suc (suc (suc (suc k)))))) ≡ 0 = room_none k in ap (λ (x : ℕ). x * (6 - 1 - suc (suc (suc (suc (suc (suc k))))))) e ∙ zero-mul (6 - 1 - suc (suc (suc (suc (suc (suc k))))))

module _ (N : Network) (v : ℕ) (below : v < N.n) where
  longer_few : (p : List ℕ) → AllByRecursion (λ s. s < N.n) p → Distinct p → has v p ≡ false → length (lack v (longer N p)) + suc (length p) ≤ N.n
  unfolding longer
  longer_few p sites d h =
      let t : ℕ → Bool = goes_on N p in
      let u : ℕ → Bool = λ s. not (has v (p ++ s ∷ [])) in
      let zs : List ℕ = filter u (filter t (range_with_len 0 N.n)) in
      let long : length (lack v (map (λ s. p ++ s ∷ []) (filter t (range_with_len 0 N.n)))) ≡ length zs =
      ap length (kept_map (λ (s : ℕ). p ++ s ∷ []) (λ q. not (has v q)) (filter t (range_with_len 0 N.n))) ∙ length-map zs (λ (s : ℕ). p ++ s ∷ []) in
      let apart : In v p → ⊥ = λ i. both_ways (has v p) h (has_in v p i) in
      let each : (s : ℕ) → In s zs → (s < N.n) × (In s (v ∷ p) → ⊥) = λ s i.
      let a = kept_in u (filter t (range_with_len 0 N.n)) s i in
      let b = kept_in t (range_with_len 0 N.n) s a.0 in (
        omega (arith, counting_below 0 N.n s b.0),
        λ j. ⊎_elim (λ (e : s ≡ v). lacks v (p ++ s ∷ []) a.1 (in_right p (s ∷ []) v (inl (sym e)))) (λ m. goes_new N p s b.1 m) j,
      ) in
      let b = distinct_beside N.n zs (v ∷ p) (distinct_kept u (filter t (range_with_len 0 N.n)) (distinct_kept t (range_with_len 0 N.n) (distinct_counting 0 N.n))) (apart, d) each
      (λ s i. ⊎_elim (λ (e : s ≡ v). omega arith) (λ j. all_in (λ s. s < N.n) p s sites j) i) in
      omega arith

  longer_none : (p : List ℕ) → has v p ≡ true → length (lack v (longer N p)) ≡ 0
  unfolding longer
  longer_none p h =
      ap length (kept_none (λ q. not (has v q)) (map (λ s. p ++ s ∷ []) (filter (goes_on N p) (range_with_len 0 N.n))) (λ q i.
      let m = in_mapped (λ (s : ℕ). p ++ s ∷ []) (filter (goes_on N p) (range_with_len 0 N.n)) q i in
      not_from_true (has v q) (ap (has v) m.2 ∙ has_in v (p ++ m.0 ∷ []) (in_left p (m.0 ∷ []) v (has_out v p h)))))

  level_few : (k : ℕ) (ps : List (List ℕ)) → ((p : List ℕ) → In p ps → JoinedPath N k p) →
      length (lack v (join_all (map (longer N) ps))) ≤ length (lack v ps) * (N.n - 1 - k)
  level_few k [] h = omega arith
  level_few k (p ∷ ps) h =
      go (has v p) refl (level_few k ps (λ q i. h q (inr i)))
    where
      r : ℕ
      r = N.n - 1 - k

      all : length (lack v (longer N p ++ join_all (map (longer N) ps))) ≡ length (lack v (longer N p)) + length (lack v (join_all (map (longer N) ps)))
      all = ap length (filter-append (λ q. not (has v q)) (longer N p) (join_all (map (longer N) ps))) ∙ length-append (lack v (longer N p)) (lack v (join_all (map (longer N) ps)))

      go : (b : Bool) → has v p ≡ b → length (lack v (join_all (map (longer N) ps))) ≤ length (lack v ps) * r →
          length (lack v (longer N p ++ join_all (map (longer N) ps))) ≤ length (cond (not b) (p ∷ lack v ps) (lack v ps)) * r
      go true e l = omega (arith, all, longer_none p e)
      go false e l =
          let x = h p (inl refl) in
          let long : length p ≡ k = x.long in
          omega (arith, all, longer_few p x.sites x.distinct e, suc-mul (length (lack v ps)) r)

  lacking_few : (k : ℕ) → length (lack v (paths N k)) ≤ room N.n k
  unfolding paths
  lacking_few zero = omega arith
  lacking_few (suc k) =
      let a = level_few k (paths N k) (paths_are N k) in
      let b = mul-le (length (lack v (paths N k))) (N.n - 1 - k) (room N.n k) (N.n - 1 - k) (lacking_few k) (omega arith) in
      omega arith

  expected_room : (k : ℕ) → length (expected N v k) ≤ room N.n k
  unfolding expected
  expected_room zero = omega arith
  expected_room (suc k) =
      let a = kept_fewer (λ q. N.joined (final q) v && not (has v q)) (λ q. not (has v q)) (λ q e. (and_parts (N.joined (final q) v) (not (has v q)) e).1) (paths N (suc k)) in
      omega (arith, lacking_few (suc k))

  module _ (small : N.n ≤ 6) where
    expected_six : (k : ℕ) → length (expected N v k) ≤ room 6 k
    expected_six k = omega (arith, expected_room k, room_more N.n 6 k small)

    pub expected_fits : (k : ℕ) → length (expected N v k) ≤ 120
    expected_fits zero = omega (arith, expected_six 0)
    expected_fits (suc zero) = omega (arith, expected_six 1)
    expected_fits (suc (suc zero)) = omega (arith, expected_six 2)
    expected_fits (suc (suc (suc zero))) = omega (arith, expected_six 3)
    expected_fits (suc (suc (suc (suc zero)))) = omega (arith, expected_six 4)
    expected_fits (suc (suc (suc (suc (suc zero))))) = omega (arith, expected_six 5)
    expected_fits (suc (suc (suc (suc (suc (suc k)))))) = let l = expected_six (suc (suc (suc (suc (suc (suc k)))))) in omega (arith, room_none k)

    step_fits : (k a b : ℕ) → length (expected_up_to N v k) ≤ a → length (expected N v (suc k)) ≤ b → length (expected_up_to N v (suc k)) ≤ a + b
    unfolding expected_up_to
    step_fits k a b h g = omega (arith, length-append (expected_up_to N v k) (expected N v (suc k)))

    fits_0 : length (expected_up_to N v 0) ≤ 0
    unfolding expected_up_to
    fits_0 = omega arith

    fits_1 : length (expected_up_to N v 1) ≤ 5
    fits_1 = step_fits 0 0 5 fits_0 (expected_six 1)

    fits_2 : length (expected_up_to N v 2) ≤ 25
    fits_2 = step_fits 1 5 20 fits_1 (expected_six 2)

    fits_3 : length (expected_up_to N v 3) ≤ 85
    fits_3 = step_fits 2 25 60 fits_2 (expected_six 3)

    fits_4 : length (expected_up_to N v 4) ≤ 205
    fits_4 = step_fits 3 85 120 fits_3 (expected_six 4)

    fits_5 : (k : ℕ) → length (expected_up_to N v (suc (suc (suc (suc (suc k)))))) ≤ 325
    fits_5 zero = step_fits 4 205 120 fits_4 (expected_six 5)
    fits_5 (suc k) =
        let m : ℕ = suc (suc (suc (suc (suc k)))) in
        let l : length (expected N v (suc m)) ≤ 0 = omega (arith, expected_six (suc m), room_none k) in
        omega (arith, step_fits m 325 0 (fits_5 k) l)

    pub all_fit : (k : ℕ) → length (expected_up_to N v k) ≤ 325
    all_fit zero = omega (arith, fits_0)
    all_fit (suc zero) = omega (arith, fits_1)
    all_fit (suc (suc zero)) = omega (arith, fits_2)
    all_fit (suc (suc (suc zero))) = omega (arith, fits_3)
    all_fit (suc (suc (suc (suc zero)))) = omega (arith, fits_4)
    all_fit (suc (suc (suc (suc (suc k))))) = fits_5 k

pub expected_law : ExpectedLaw
expected_law N v = record {
  each = expected_are N v;
  every = are_expected N v;
  none_twice = distinct_expected N v;
  ascending = λ k. sorted_at PathBefore (expected N v k) [] (sorted_expected N v k);
  in_order = λ k. sorted_at NotedBefore (expected_up_to N v k) [] (sorted_up_to N v k);
  few = λ small below. expected_fits N v below small;
  few_in_all = λ small below. all_fit N v below small;
}
