-- What the parts of a table are.
use Rattle.std.proofs.Common.{◌≡◌, ℕ, zero, suc, ◌+◌, ◌-◌, ◌<◌, ◌≤◌, List, [], ◌++◌, map, length, get_or, take, sym, refl, ap, ◌∙◌, subst, ⊎_elim, append_assoc, append-nil, arith, length-append}
use Rattle.std.proofs.lemmas.List.{map-append, length-map, get_or-take, take-take, take_at, get_or-map}
use Rattle.std.proofs.lemmas.Bool.{cases_lt}
use Rattle.sites.specs.Lists.{In}
use Rattle.theory.specs.Network.{Network}
use Rattle.theory.specs.Flooding.{expected, expected_up_to}
use Rattle.theory.proofs.Paths.{up_to_in}
use Rattle.notebooks.specs.Laws.{Carried}
use Rattle.notebooks.proofs.Floods.{expected_carried}
use Rattle.tables.specs.Wirings.{wired}
use Rattle.tables.specs.Entries.{entry_of, no_entry}
use Rattle.tables.specs.Tables.{table_level, table_paths}
use Rattle.tables.specs.declared.expected_path.ExpectedPath.{ExpectedPath}
use Rattle.tables.specs.declared.table.PathTable.{PathTable}
use Rattle.tables.proofs.Listed.{up_to_more, up_to_strange, up_to_long, few_paths}

-- the paths of at most k sites stand in front of those of more
up_to_parts : (N : Network) (v k d : ℕ) → (rest : List (List ℕ)) × (expected_up_to N v (d + k) ≡ expected_up_to N v k ++ rest)
unfolding expected_up_to
up_to_parts N v k zero = let e : zero + k ≡ k = omega arith in ([], ap (expected_up_to N v) e ∙ sym (append-nil (expected_up_to N v k)))
up_to_parts N v k (suc d) =
    let below = up_to_parts N v k d in
    let e : suc d + k ≡ suc (d + k) = omega arith in
    let more : List (List ℕ) = expected N v (suc (d + k)) in
    (below.0 ++ more, ap (expected_up_to N v) e ∙ ap (λ (x : List (List ℕ)). x ++ more) below.1 ∙ append_assoc (expected_up_to N v k) below.0 more)

level_none : (N : Network) (v : ℕ) → expected N v 0 ≡ []
unfolding expected
level_none N v = refl

module _ (t : PathTable) where
  pub past_five : (k : ℕ) → 5 ≤ k → table_paths t k ≡ table_paths t 5
  past_five k h =
      let e : k ≡ 5 + (k - 5) = omega arith in
      ap (table_paths t) e ∙ up_to_long t.wiring.n t.wiring.near t.site t.wiring.few t.wiring.below (k - 5)

  pub few : (k : ℕ) → length (table_paths t k) ≤ 325
  few k = few_paths t.wiring.n t.wiring.near t.site t.wiring.few t.wiring.below k

  pub count_at : (k m : ℕ) → (k ≤ 5 → m ≡ k) → (5 ≤ k → m ≡ 5) → get_or t.ends m 0 ≡ length (table_paths t k)
  count_at k m low high =
      ⊎_elim
      (λ (lt : k < 6). ap (λ i. get_or t.ends i 0) (low (omega arith)) ∙ t.counted k lt)
      (λ (le : 6 ≤ k). ap (λ i. get_or t.ends i 0) (high (omega arith)) ∙ t.counted 5 (omega arith) ∙ ap length (sym (past_five k (omega arith))))
      (cases_lt k 6)

  short_paths : (k : ℕ) → k ≤ 5 → take (length (table_paths t k)) t.entries ≡ map entry_of (table_paths t k)
  short_paths k le =
      let N = wired t.wiring.n t.wiring.near in
      let p = up_to_parts N t.site k (5 - k) in
      let e : 5 ≡ (5 - k) + k = omega arith in
      let whole : table_paths t 5 ≡ table_paths t k ++ p.0 = ap (table_paths t) e ∙ p.1 in
      let c : get_or t.ends 5 0 ≡ length (table_paths t 5) = t.counted 5 (omega arith) in
      let fits : length (table_paths t k) ≤ get_or t.ends 5 0 = omega (arith, ap length whole, length-append (table_paths t k) p.0) in
      sym (take-take (length (table_paths t k)) (get_or t.ends 5 0) t.entries fits)
      ∙ ap (take (length (table_paths t k))) (t.listed ∙ ap (map entry_of) whole ∙ map-append entry_of (table_paths t k) p.0)
      ∙ take_at (map entry_of (table_paths t k)) (map entry_of p.0) (length (table_paths t k)) (length-map (table_paths t k) entry_of)

  pub front_paths : (k : ℕ) → take (length (table_paths t k)) t.entries ≡ map entry_of (table_paths t k)
  front_paths k =
      ⊎_elim
      (λ (lt : k < 6). short_paths k (omega arith))
      (λ (le : 6 ≤ k). let e = past_five k (omega arith) in
      ap (λ (ps : List (List ℕ)). take (length ps) t.entries) e ∙ short_paths 5 (omega arith) ∙ sym (ap (map entry_of) e))
      (cases_lt k 6)

  pub counts_rise : (k : ℕ) → length (table_paths t (k - 1)) + length (table_level t k) ≡ length (table_paths t k)
  counts_rise zero = omega (arith, ap length (level_none (wired t.wiring.n t.wiring.near) t.site))
  counts_rise (suc k) =
      sym (length-append (table_paths t (suc k - 1)) (table_level t (suc k)))
      ∙ ap length (up_to_more t.wiring.n t.wiring.near t.site t.wiring.few (suc k) (omega arith))

  pub entry_at : (i : ℕ) → i < length (table_paths t 5) → get_or t.entries i no_entry ≡ entry_of (get_or (table_paths t 5) i [])
  entry_at i h =
      sym (get_or-take (length (table_paths t 5)) t.entries i no_entry h)
      ∙ ap (λ (es : List ExpectedPath). get_or es i no_entry) (front_paths 5)
      ∙ get_or-map entry_of (table_paths t 5) i [] no_entry h

-- ---- its paths fit flood words

pub table_carried : (t : PathTable) (k : ℕ) (q : List ℕ) → In q (table_paths t k) → Carried q
table_carried t k q i =
    let w = t.wiring in
    let N = wired w.n w.near in
    ⊎_elim
    (λ (lt : t.site < w.n). let x = up_to_in N t.site k q i in expected_carried N t.site x.0 q w.few lt x.2)
    (λ (le : w.n ≤ t.site). absurd (subst (In q) (up_to_strange w.n w.near t.site w.few w.below le k) i))
    (cases_lt t.site w.n)
