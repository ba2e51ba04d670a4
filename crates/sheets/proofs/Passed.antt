-- What is known of a sheet that passed rows 1 to 6.
use Rattle.std.proofs.Common.{◌≡◌, ℕ, zero, suc, ◌+◌, ◌-◌, ◌/◌, ◌%◌, ◌^◌, ◌<◌, ◌≤◌, Bool, true, false, cond, eqb, ltb, leb, List, length, Some, None, Ok, Option, Result, refl, ap, ◌∙◌, subst, ⊎_elim, arith}
use native.Mathlib.Nat.{zero-mod, add-mod_right}
use Rattle.std.proofs.lemmas.Bool.{and_parts, or_parts, and_from, and_cases, eqb-true, eq-eqb, ltb-true, ltb-false, leb-true, le-leb, not-false, both_ways}
use Rattle.sites.specs.Positions.{first_from}
use Rattle.sites.proofs.Positions.{none_at, first_is}
use Rattle.sites.specs.declared.refusal.Refusal.{Refusal}
use Rattle.sites.specs.declared.refusal.Refusal.TheVariants.{SheetSize, Head, Kind, Edge, Path, Fan}
use Rattle.words.specs.Layout.{kind_field}
use Rattle.sheets.specs.declared.refusal.SheetRefusal.{SheetRefusal}
use Rattle.sheets.specs.Parts.{word_at, site_count, rogue_limit, later, edge?, path_word?}
use Rattle.sheets.specs.Rows.{size_fault, head_fault, bad_kind, kind_fault, bad_edge, edge_fault, bad_path, path_fault, first_fan, fan_starts, fan_at?, bad_fan, fan_fault}
use Rattle.sheets.specs.Refusals.{told, and_then, well_formed}

-- ---- each row found nothing

both : (f : Refusal) (o : Option ℕ) (r : Result (Unit {0}) SheetRefusal) → and_then (told f o) r ≡ Ok tt → (o ≡ None) × (r ≡ Ok tt)
both f (Some k) r e = absurd (let z : ◌≡◌ {A = ℕ} 0 1 = cc in omega arith)
both f None r e = (refl, e)

lone : (f : Refusal) (o : Option ℕ) → told f o ≡ Ok tt → o ≡ None
lone f (Some k) e = absurd (let z : ◌≡◌ {A = ℕ} 0 1 = cc in omega arith)
lone f None e = refl

passes : (b : Bool) (k : ℕ) → cond b None (Some k) ≡ None → b ≡ true
passes true k e = refl
passes false k e = absurd (let z : ◌≡◌ {A = ℕ} 0 1 = cc in omega arith)

pub record RowsPass (ws : List ℕ) : Type 0 where
  pub size : size_fault ws ≡ None
  pub head : head_fault ws ≡ None
  pub kinds : kind_fault ws ≡ None
  pub edges : edge_fault ws ≡ None
  pub paths : path_fault ws ≡ None
  pub fans : fan_fault ws ≡ None

pub rows_pass : (ws : List ℕ) → well_formed ws ≡ Ok tt → RowsPass ws
rows_pass ws ok =
    let a = both SheetSize (size_fault ws) _ ok in
    let b = both Head (head_fault ws) _ a.1 in
    let c = both Kind (kind_fault ws) _ b.1 in
    let d = both Edge (edge_fault ws) _ c.1 in
    let e = both Path (path_fault ws) _ d.1 in
    record { size = a.0; head = b.0; kinds = c.0; edges = d.0; paths = e.0; fans = lone Fan (fan_fault ws) e.1 }

-- ---- the first fan path

module _ (ws : List ℕ) where
  abbrev fan_word : ℕ → Bool
  fan_word i = eqb (kind_field (word_at ws i)) 11

  abbrev fans_from : Option ℕ → ℕ
  fans_from o = elim o [ Some i ↦ i | None ↦ length ws ]

  first_fan_is : (o : Option ℕ) → first_from fan_word 1 (later ws) ≡ o → 0 < length ws
      → (fans_from o ≤ length ws) × (0 < fans_from o) × (fans_from o < length ws → fan_word (fans_from o) ≡ true) × ((k : ℕ) → 1 ≤ k → k < fans_from o → fan_word k ≡ false)
  first_fan_is (Some m) e h = let q = first_is fan_word 1 (later ws) m e in (omega (arith, q.2), omega (arith, q.1), λ _. q.0, q.3)
  first_fan_is None e h = (omega arith, h, λ l. absurd (omega arith), λ k lo hi. none_at fan_word 1 (later ws) e k lo (omega arith))

-- ---- what the rows tell of each place

module _ (ws : List ℕ) (ok : well_formed ws ≡ Ok tt) where
  rows : RowsPass ws
  rows = rows_pass ws ok

  sized : (0 < length ws) × (length ws ≤ 1024)
  sized = let p = and_parts _ _ (passes _ 0 rows.size) in (ltb-true 0 (length ws) p.0, leb-true (length ws) 1024 p.1)

  pub some_words : 0 < length ws
  some_words = sized.0

  pub sheet_fits : length ws ≤ 1024
  sheet_fits = sized.1

  pub head_is : (word_at ws 0 / 2 ^ 8 ≡ 0x800000) × (2 ≤ site_count ws) × (site_count ws ≤ 6) × (rogue_limit ws ≤ 2)
  head_is =
      let p = and_parts _ _ (passes _ 0 rows.head) in
      let q = and_parts _ _ p.1 in
      let r = and_parts _ _ q.1 in
      (eqb-true _ _ p.0, leb-true _ _ q.0, leb-true _ _ r.0, leb-true _ _ r.1)

  pub sites_range : (2 ≤ site_count ws) × (site_count ws ≤ 6)
  sites_range = (head_is.1, head_is.2)

  pub rogues_range : rogue_limit ws ≤ 2
  rogues_range = head_is.3

  pub kind_at : (i : ℕ) → 0 < i → i < length ws →
      (9 ≤ kind_field (word_at ws i)) × (kind_field (word_at ws i) ≤ 11) × (kind_field (word_at ws (i - 1)) ≤ kind_field (word_at ws i))
  kind_at i pos h =
      let b = none_at (bad_kind ws) 1 (later ws) rows.kinds i (omega arith) (omega arith) in
      let q = or_parts (ltb (kind_field (word_at ws i)) 9) _ b in
      let r = or_parts (ltb 11 (kind_field (word_at ws i))) _ q.1 in
      (ltb-false _ _ q.0, ltb-false _ _ r.0, ltb-false _ _ r.1)

  pub edge_at : (i : ℕ) → 0 < i → i < length ws → kind_field (word_at ws i) ≡ 9 → (edge? (site_count ws) (word_at ws i) ≡ true) × (word_at ws (i - 1) < word_at ws i)
  edge_at i pos h k =
      let b = none_at (bad_edge ws) 1 (later ws) rows.edges i (omega arith) (omega arith) in
      let good = ⊎_elim (λ f. absurd (both_ways _ f (eq-eqb _ _ k))) (λ f. not-false _ f) (and_cases (eqb (kind_field (word_at ws i)) 9) _ b) in
      let p = and_parts (edge? (site_count ws) (word_at ws i)) _ good in
      (p.0, ltb-true _ _ p.1)

  pub path_at : (i : ℕ) → 0 < i → i < length ws → 10 ≤ kind_field (word_at ws i) → path_word? ws (word_at ws i) ≡ true
  path_at i pos h k =
      let b = none_at (bad_path ws) 1 (later ws) rows.paths i (omega arith) (omega arith) in
      ⊎_elim (λ f. absurd (both_ways _ f (le-leb 10 (kind_field (word_at ws i)) k))) (λ f. not-false _ f) (and_cases (leb 10 (kind_field (word_at ws i))) _ b)

  pub fan_at : (i : ℕ) → 0 < i → i < length ws → fan_starts ws i ≡ true → fan_at? ws i ≡ true
  fan_at i pos h s =
      let b = none_at (bad_fan ws) 1 (later ws) rows.fans i (omega arith) (omega arith) in
      ⊎_elim (λ f. absurd (both_ways _ f s)) (λ f. not-false _ f) (and_cases (fan_starts ws i) _ b)

  fans_are : (first_fan ws ≤ length ws) × (0 < first_fan ws) × (first_fan ws < length ws → fan_word ws (first_fan ws) ≡ true) × ((k : ℕ) → 1 ≤ k → k < first_fan ws → fan_word ws k ≡ false)
  fans_are = first_fan_is ws (first_from (fan_word ws) 1 (later ws)) refl some_words

  pub fans_within : first_fan ws ≤ length ws
  fans_within = fans_are.0

  pub fans_after_head : 0 < first_fan ws
  fans_after_head = fans_are.1

  -- a word before the first fan path is none
  pub no_fan_before : (i : ℕ) → 0 < i → i < first_fan ws → kind_field (word_at ws i) ≡ 11 → ⊥
  no_fan_before i pos h k = both_ways _ (fans_are.3 i pos h) (eq-eqb _ _ k)

  from_there : (j : ℕ) → first_fan ws + j < length ws → kind_field (word_at ws (first_fan ws + j)) ≡ 11
  from_there zero h = let e : first_fan ws + zero ≡ first_fan ws = omega arith in rw e (eqb-true _ _ (fans_are.2 (omega arith)))
  from_there (suc j) h =
      let p = from_there j (omega arith) in
      let q = kind_at (first_fan ws + suc j) (omega (arith, fans_are.1)) h in
      let e : first_fan ws + suc j - 1 ≡ first_fan ws + j = omega arith in
      let d = subst (λ (x : ℕ). x ≤ kind_field (word_at ws (first_fan ws + suc j))) (ap (λ (x : ℕ). kind_field (word_at ws x)) e ∙ p) q.2 in
      omega (arith, q.1, d)

  -- from the first fan path on, every word is one
  pub fan_words : (i : ℕ) → first_fan ws ≤ i → i < length ws → kind_field (word_at ws i) ≡ 11
  fan_words i lo h = let e : first_fan ws + (i - first_fan ws) ≡ i = omega arith in subst (λ (x : ℕ). kind_field (word_at ws x) ≡ 11) e (from_there (i - first_fan ws) (omega arith))

-- ---- where fans begin

module _ (ws : List ℕ) where
  pub first_starts : fan_starts ws (first_fan ws) ≡ true
  first_starts =
      let e : first_fan ws - first_fan ws ≡ 0 = omega arith in
      and_from _ _ (le-leb (first_fan ws) (first_fan ws) (omega arith)) (eq-eqb _ _ (simp (e, zero-mod)))

  pub next_starts : (i : ℕ) → fan_starts ws i ≡ true → fan_starts ws (i + (rogue_limit ws + 1)) ≡ true
  next_starts i s =
      let p = and_parts (leb (first_fan ws) i) _ s in
      let l = leb-true (first_fan ws) i p.0 in
      let e : i + (rogue_limit ws + 1) - first_fan ws ≡ (i - first_fan ws) + (rogue_limit ws + 1) = omega arith in
      let m : (i + (rogue_limit ws + 1) - first_fan ws) % (rogue_limit ws + 1) ≡ 0 = rw e (add-mod_right (i - first_fan ws) (rogue_limit ws + 1) ∙ eqb-true _ _ p.1) in
      and_from _ _ (le-leb (first_fan ws) (i + (rogue_limit ws + 1)) (omega arith)) (eq-eqb _ _ m)
