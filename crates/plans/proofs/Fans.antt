-- The places of the fans, counted off from the first fan path, and the first that serves.
use Rattle.std.proofs.Common.{◌≡◌, ℕ, zero, suc, ◌+◌, ◌-◌, ◌*◌, ◌/◌, ◌%◌, ◌<◌, ◌≤◌, Bool, true, false, eqb, leb, List, length, take, drop, Some, None, Option, sym, refl, ap, ◌∙◌, ⊎_elim, arith}
use Rattle.std.proofs.Math.Nat.{mul-mod_left, lt_of_mul-lt-mul_right, le-div_iff_mul-le}
use native.Mathlib.Nat.{add-mul}
use Rattle.std.proofs.lemmas.Nat.{div-add-mod'}
use Rattle.std.proofs.lemmas.Bool.{and_parts, and_from, and_left, and_right, eqb-true, eq-eqb, leb-true, le-leb, lt-leb, cases_Bool}
use Rattle.sites.specs.Positions.{first_from}
use Rattle.sites.proofs.Positions.{first_miss, first_is, none_at, no_first, this_first}
use Rattle.words.specs.Layout.{kind_field}
use Rattle.sheets.specs.Parts.{word_at, rogue_limit, later}
use Rattle.sheets.specs.Rows.{first_fan, fan_starts, run_at}
use Rattle.plans.specs.declared.checked.Fans.{Fans}
use Rattle.plans.specs.Complete.{serves_fan, fan_here, fan_place}

-- where a test fails at the d positions from i on, the search goes on behind them
skip : (p : ℕ → Bool) (n i d : ℕ) → i + d ≤ n → ((k : ℕ) → i ≤ k → k < i + d → p k ≡ false) → first_from p i (n - i) ≡ first_from p (i + d) (n - (i + d))
skip p n i zero l h = let e : i ≡ i + 0 = omega arith in ap (λ (x : ℕ). first_from p x (n - x)) e
skip p n i (suc d) l h =
    let e : i + 1 + d ≡ i + suc d = omega arith in
    first_miss p i n (omega arith) (h i (omega arith) (omega arith))
    ∙ skip p n (i + 1) d (omega arith) (λ k lo hi. h k (omega arith) (omega arith))
    ∙ ap (λ (x : ℕ). first_from p x (n - x)) e

fan_after_head : (ws : List ℕ) (o : Option ℕ) → first_from (λ i. eqb (kind_field (word_at ws i)) 11) 1 (later ws) ≡ o → 0 < length ws →
    (0 < elim o [ Some i ↦ i | None ↦ length ws ]) × (elim o [ Some i ↦ i | None ↦ length ws ] ≤ length ws)
fan_after_head ws (Some i) e h = let q = first_is (λ i. eqb (kind_field (word_at ws i)) 11) 1 (later ws) i e in (omega (arith, q.1), omega (arith, q.2))
fan_after_head ws None e h = (h, omega arith)

module _ (ws : List ℕ) where
  within : 0 < length ws → (0 < first_fan ws) × (first_fan ws ≤ length ws)
  within h = fan_after_head ws (first_from (λ i. eqb (kind_field (word_at ws i)) 11) 1 (later ws)) refl h

  pub fans_within : 0 < length ws → first_fan ws ≤ length ws
  fans_within h = (within h).1

-- the k-th fan lies within the words
pub fan_fits : (start k n many : ℕ) → 0 < n → start ≤ many → k < (many - start) / n → start + k * n + n ≤ many
fan_fits start k n many some h l = omega (arith, (le-div_iff_mul-le {k = n} {x = k + 1} {y = many - start} some).0 (omega arith), add-mul k 1 n)

module _ (ws : List ℕ) (F v A n : ℕ) (size : n ≡ rogue_limit ws + 1) (some : 0 < length ws) where
  pub from_first : first_from (fan_here ws F v A) (first_fan ws) (length ws - first_fan ws) ≡ fan_place ws F v A
  from_first =
      let w = within ws some in
      let e : 1 + (first_fan ws - 1) ≡ first_fan ws = omega (arith, w.0) in
      sym (skip (fan_here ws F v A) (length ws) 1 (first_fan ws - 1) (omega (arith, w.0, w.1))
      (λ k lo hi. and_left (fan_starts ws k) _ (and_left (leb (first_fan ws) k) _ (lt-leb (first_fan ws) k (omega (arith, w.0)))))
      ∙ ap (λ (x : ℕ). first_from (fan_here ws F v A) x (length ws - x)) e)

-- the fans of a sheet, by their numbers
module _ (x : Fans) (F v A : ℕ) where
  abbrev ws : List ℕ
  ws = x.sheet.words.now

  abbrev start : ℕ
  start = x.start

  abbrev n : ℕ
  n = x.sheet.size.rogues + 1

  size : n ≡ rogue_limit ws + 1
  size = ap (λ (k : ℕ). k + 1) x.sheet.rogues

  -- how many fans there are, and whether the one with a number serves
  abbrev pub count : ℕ
  count = (length ws - start) / n

  abbrev pub serves : ℕ → Bool
  serves k = serves_fan F v A (take n (drop (start + k * n) ws))

  counted : (k : ℕ) → start + k * n + n ≤ length ws → k < 0 + count
  counted k l = omega (arith, (le-div_iff_mul-le {k = n} {x = k + 1} {y = length ws - start} (omega (arith, size))).1 (omega (arith, add-mul k 1 n)))

  run_is : (k i : ℕ) → i ≡ start + k * n → take n (drop (start + k * n) ws) ≡ run_at ws i
  run_is k i e = ap (λ (y : ℕ). take n (drop y ws)) (sym e) ∙ ap (λ (y : ℕ). take y (drop i ws)) size

  here : (k i : ℕ) → i ≡ start + k * n → start + k * n + n ≤ length ws → serves k ≡ true → fan_here ws F v A i ≡ true
  here k i e l h =
      let z : i - first_fan ws ≡ k * n = omega (arith, x.first) in
      let m : (i - first_fan ws) % (rogue_limit ws + 1) ≡ 0 = ap (λ (y : ℕ). y % (rogue_limit ws + 1)) z ∙ ap (λ (y : ℕ). k * n % y) (sym size) ∙ mul-mod_left k n in
      and_from (fan_starts ws i) _ (and_from (leb (first_fan ws) i) _ (le-leb (first_fan ws) i (omega (arith, x.first))) (eq-eqb ((i - first_fan ws) % (rogue_limit ws + 1)) 0 m))
      (and_from (leb (i + (rogue_limit ws + 1)) (length ws)) _ (le-leb (i + (rogue_limit ws + 1)) (length ws) (omega arith)) (ap (serves_fan F v A) (sym (run_is k i e)) ∙ h))

  not_here : (i : ℕ) → ((k : ℕ) → i ≡ start + k * n → start + k * n + n ≤ length ws → serves k ≡ false) → fan_here ws F v A i ≡ false
  not_here i h =
      ⊎_elim
      (λ s. ⊎_elim
      (λ l. let p = and_parts (leb (first_fan ws) i) (eqb ((i - first_fan ws) % (rogue_limit ws + 1)) 0) s in
      let lo = leb-true (first_fan ws) i p.0 in
      let z : (i - first_fan ws) % (rogue_limit ws + 1) ≡ 0 = eqb-true ((i - first_fan ws) % (rogue_limit ws + 1)) 0 p.1 in
      let m : (i - first_fan ws) % n ≡ 0 = ap (λ (y : ℕ). (i - first_fan ws) % y) size ∙ z in
      let k : ℕ = (i - first_fan ws) / n in
      let e : i ≡ start + k * n = omega (arith, x.first, div-add-mod' (i - first_fan ws) n) in
      and_right (fan_starts ws i) _ (and_right (leb (i + (rogue_limit ws + 1)) (length ws)) _
      (ap (serves_fan F v A) (sym (run_is k i e)) ∙ h k e (omega (arith, leb-true (i + (rogue_limit ws + 1)) (length ws) l)))))
      (λ l. and_right (fan_starts ws i) _ (and_left (leb (i + (rogue_limit ws + 1)) (length ws)) _ l))
      (cases_Bool (leb (i + (rogue_limit ws + 1)) (length ws))))
      (λ s. and_left (fan_starts ws i) _ s)
      (cases_Bool (fan_starts ws i))

  -- where no fan serves, there is no place
  pub fan_missing : first_from serves 0 count ≡ None → None ≡ fan_place ws F v A
  fan_missing h = sym (no_first (fan_here ws F v A) (first_fan ws) (length ws - first_fan ws) (λ i lo hi. not_here i (λ k e l. none_at serves 0 count h k (omega arith) (counted k l)))) ∙ from_first ws F v A n size x.sheet.some

  -- the fan that is found lies within the words
  pub found_fits : (k : ℕ) → first_from serves 0 count ≡ Some k → start + k * n + n ≤ length ws
  found_fits k h = fan_fits start k n (length ws) (omega (arith, size)) (omega (arith, x.first, fans_within ws x.sheet.some)) (omega (arith, (first_is serves 0 count k h).2))

  -- the first fan that serves, by its number, stands at the place of the first that serves
  pub fan_is : (k : ℕ) → first_from serves 0 count ≡ Some k → Some (start + k * n) ≡ fan_place ws F v A
  fan_is k h =
      let q = first_is serves 0 count k h in
      let l : start + k * n + n ≤ length ws = found_fits k h in
      sym (this_first (fan_here ws F v A) (first_fan ws) (length ws - first_fan ws) (start + k * n) (omega (arith, x.first)) (omega (arith, l, size, x.first)) (here k (start + k * n) refl l q.0)
      (λ i lo hi. not_here i (λ j e m. q.3 j (omega arith) (lt_of_mul-lt-mul_right n (omega arith)))))
      ∙ from_first ws F v A n size x.sheet.some
