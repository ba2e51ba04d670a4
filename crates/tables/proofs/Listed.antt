-- The levels of a table, one behind the other.
use Rattle.std.proofs.Common.{◌≡◌, ℕ, zero, suc, ◌+◌, ◌-◌, ◌^◌, ◌<◌, ◌≤◌, not, ◌&&◌, List, [], ◌∷◌, ◌++◌, map, length, get_or, sym, refl, ap, ◌∙◌, inl, ⊎_elim, append-nil, arith, length-append}
use Rattle.std.proofs.lemmas.List.{map-append, length-map}
use Rattle.std.proofs.lemmas.Bool.{and_left, cases_lt}
use Rattle.sites.specs.Lists.{In, has, final}
use Rattle.sites.proofs.Lists.{kept_none}
use Rattle.sites.proofs.Sets.{in_set_above}
use Rattle.theory.specs.Network.{Network}
use Rattle.theory.specs.Flooding.{paths, expected, expected_up_to}
use Rattle.theory.proofs.Paths.{expected_short}
use Rattle.theory.proofs.Counts.{expected_law}
use Rattle.tables.specs.Wirings.{wired}
use Rattle.tables.specs.Entries.{entry_of}
use Rattle.tables.specs.Steps.{walks, root}
use Rattle.tables.specs.declared.expected_path.ExpectedPath.{ExpectedPath}
use Rattle.tables.proofs.Levels.{levels}

nil_of : {X : Type 0} (xs : List X) → ((x : X) → In x xs → ⊥) → xs ≡ []
nil_of [] h = refl
nil_of (x ∷ xs) h = absurd (h x (inl refl))

module _ (n : ℕ) (near : List ℕ) (v : ℕ) (few : n ≤ 6) where
  abbrev N : Network
  N = wired n near

  pub up_to_more : (k : ℕ) → 0 < k → expected_up_to N v (k - 1) ++ expected N v k ≡ expected_up_to N v k
  unfolding expected_up_to
  up_to_more k h =
      let e : k ≡ suc (k - 1) = omega arith in
      ap (λ x. expected_up_to N v (k - 1) ++ expected N v x) e ∙ sym (ap (expected_up_to N v) e)

  pub up_to_none : expected_up_to N v 0 ≡ []
  unfolding expected_up_to
  up_to_none = refl

  module _ (below : v < n) where
    pub up_to_325 : (k : ℕ) → length (expected_up_to N v k) ≤ 325
    up_to_325 k = (expected_law N v).few_in_all few below k

    -- one level more
    pub level_more : (k : ℕ) → 0 < k → k < 6 → (xs : List ExpectedPath) → xs ≡ map entry_of (expected_up_to N v (k - 1)) →
        xs ++ walks near v (root n v) k ≡ map entry_of (expected_up_to N v k)
    level_more k pos lt xs e =
        let d : k ≡ suc (k - 1) = omega arith in
        ap (λ (ys : List ExpectedPath). ys ++ walks near v (root n v) k) e
        ∙ ap (λ x. map entry_of (expected_up_to N v (k - 1)) ++ walks near v (root n v) x) d
        ∙ ap (λ (ys : List ExpectedPath). map entry_of (expected_up_to N v (k - 1)) ++ ys) (levels n near v (k - 1) few below (omega arith))
        ∙ sym (map-append entry_of (expected_up_to N v (k - 1)) (expected N v (suc (k - 1))))
        ∙ ap (λ x. map entry_of (expected_up_to N v (k - 1) ++ expected N v x)) (sym d)
        ∙ ap (map entry_of) (up_to_more k pos)

    -- which has room
    pub level_room : (k : ℕ) → 0 < k → k < 6 → (xs : List ExpectedPath) → xs ≡ map entry_of (expected_up_to N v (k - 1)) →
        length xs + length (walks near v (root n v) k) ≤ 325
    level_room k pos lt xs e =
        omega (arith, length-append xs (walks near v (root n v) k), ap length (level_more k pos lt xs e), length-map (expected_up_to N v k) entry_of, up_to_325 k)

  -- ---- levels that are empty

  module _ (masks : (u : ℕ) → get_or near u 0 < 2 ^ n) where
    -- a site not below n expects nothing
    expected_strange : n ≤ v → (k : ℕ) → expected N v k ≡ []
    unfolding expected
    expected_strange le zero = refl
    expected_strange le (suc k) =
        kept_none (λ q. N.joined (final q) v && not (has v q)) (paths N (suc k))
        (λ q i. and_left (N.joined (final q) v) (not (has v q)) (in_set_above n (get_or near (final q) 0) v (masks (final q)) le))

    -- nor does any site along a path of six sites or more
    pub expected_long : (k : ℕ) → 5 < k → expected N v k ≡ []
    expected_long k h =
        ⊎_elim
        (λ lt. nil_of (expected N v k) (λ q i. omega (arith, expected_short N v k q lt i)))
        (λ le. expected_strange le k)
        (cases_lt v n)

    pub up_to_strange : n ≤ v → (k : ℕ) → expected_up_to N v k ≡ []
    unfolding expected_up_to
    up_to_strange le zero = refl
    up_to_strange le (suc k) = ap (λ (x : List (List ℕ)). x ++ expected N v (suc k)) (up_to_strange le k) ∙ expected_strange le (suc k)

    pub few_paths : (k : ℕ) → length (expected_up_to N v k) ≤ 325
    few_paths k = ⊎_elim (λ lt. up_to_325 lt k) (λ le. omega (arith, ap length (up_to_strange le k))) (cases_lt v n)

    more_none : (k : ℕ) → 5 ≤ k → expected_up_to N v (suc k) ≡ expected_up_to N v k
    unfolding expected_up_to
    more_none k h = ap (λ x. expected_up_to N v k ++ x) (expected_long (suc k) (omega arith)) ∙ append-nil (expected_up_to N v k)

    pub up_to_long : (d : ℕ) → expected_up_to N v (5 + d) ≡ expected_up_to N v 5
    up_to_long zero = refl
    up_to_long (suc d) =
        let e : 5 + suc d ≡ suc (5 + d) = omega arith in
        ap (expected_up_to N v) e ∙ more_none (5 + d) (omega arith) ∙ up_to_long d
