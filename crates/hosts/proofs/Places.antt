-- The place of a refused sheet fits a word.
use Rattle.std.proofs.Common.{◌≡◌, ℕ, ◌^◌, ◌<◌, ◌≤◌, Bool, true, false, cond, ltb, leb, List, length, get_or, Some, None, Ok, Err, Option, Result, refl, arith, pow_mono}
use Rattle.std.specs.Option.{option_map}
use Rattle.std.proofs.lemmas.Bool.{and_parts, leb-true}
use Rattle.sites.specs.declared.refusal.Refusal.{Refusal}
use Rattle.sites.specs.declared.refusal.Refusal.TheVariants.{SheetSize, Head, Kind, Edge, Path, Fan, NoRoute, NoFan}
use Rattle.sites.specs.Positions.{first_from}
use Rattle.sites.proofs.Lists.{get_or_in}
use Rattle.sites.proofs.Positions.{first_is}
use Rattle.sites.proofs.Suspects.{suspects_are}
use Rattle.sheets.specs.declared.refusal.SheetRefusal.{SheetRefusal}
use Rattle.sheets.specs.Parts.{later, site_count, rogue_limit}
use Rattle.sheets.specs.Rows.{size_fault, head_fault, kind_fault, edge_fault, path_fault, fan_fault, bad_kind, bad_edge, bad_path, bad_fan}
use Rattle.sheets.specs.Refusals.{told, and_then, well_formed}
use Rattle.sheets.proofs.Passed.{sites_range}
use Rattle.plans.specs.Complete.{judged, sets, first_set, routed, fanned, route_fault, missing_fan}

abbrev Low : Result (Unit {0}) SheetRefusal → Type 0
Low (Ok x) = Unit {0}
Low (Err e) = e.place < 2 ^ 32

told_low : (r : Refusal) (o : Option ℕ) → ((k : ℕ) → o ≡ Some k → k < 2 ^ 32) → Low (told r o)
told_low r (Some k) h = h k refl
told_low r None h = tt

then_low : (a b : Result (Unit {0}) SheetRefusal) → Low a → (a ≡ Ok tt → Low b) → Low (and_then a b)
then_low (Ok x) b p q = q refl
then_low (Err e) b p q = p

first_place : (t : Bool) (k : ℕ) → ◌≡◌ {A = Option ℕ} (cond t None (Some 0)) (Some k) → k < 2 ^ 32
first_place true k e = absurd (let z : ◌≡◌ {A = ℕ} 0 1 = cc in omega arith)
first_place false k e = let z : 0 ≡ k = cc in omega arith

passed : (r : Refusal) (t : Bool) → told r (cond t None (Some 0)) ≡ Ok tt → t ≡ true
passed r true e = refl
passed r false e = absurd (let z : ◌≡◌ {A = ℕ} 0 1 = cc in omega arith)

mapped_is : (g : ℕ → ℕ) (o : Option ℕ) (k : ℕ) → option_map g o ≡ Some k → (j : ℕ) × (o ≡ Some j) × (k ≡ g j)
mapped_is g (Some j) k e = (j, refl, cc)
mapped_is g None k e = absurd (let z : ◌≡◌ {A = ℕ} 0 1 = cc in omega arith)

low_mask : (n x : ℕ) → n ≤ 6 → x < 2 ^ n → x < 2 ^ 32
low_mask n x h l = let up : 2 ^ n ≤ 2 ^ 6 = pow_mono h in omega (arith, up)

module _ (ws : List ℕ) where
  short : told SheetSize (size_fault ws) ≡ Ok tt → length ws ≤ 1024
  short e = leb-true (length ws) 1024 (and_parts (ltb 0 (length ws)) (leb (length ws) 1024) (passed SheetSize _ e)).1

  word_place : length ws ≤ 1024 → (p : ℕ → Bool) (k : ℕ) → first_from p 1 (later ws) ≡ Some k → k < 2 ^ 32
  word_place h p k e = let q = first_is p 1 (later ws) k e in omega (arith, q.2)

  rows_low : Low (well_formed ws)
  rows_low =
      then_low _ _ (told_low SheetSize (size_fault ws) (first_place _)) (λ s.
      let h = short s in
      then_low _ _ (told_low Head (head_fault ws) (first_place _)) (λ _.
      then_low _ _ (told_low Kind (kind_fault ws) (word_place h (bad_kind ws))) (λ _.
      then_low _ _ (told_low Edge (edge_fault ws) (word_place h (bad_edge ws))) (λ _.
      then_low _ _ (told_low Path (path_fault ws) (word_place h (bad_path ws))) (λ _.
      told_low Fan (fan_fault ws) (word_place h (bad_fan ws)))))))

  set_place : well_formed ws ≡ Ok tt → (t : ℕ → Bool) (k : ℕ) → first_set ws t ≡ Some k → k < 2 ^ 32
  set_place ok t k e =
      let q = mapped_is (λ j. get_or (sets ws) j 0) _ k e in
      let r = first_is _ 0 (length (sets ws)) q.0 q.1 in
      let below = (suspects_are (site_count ws) (rogue_limit ws) (get_or (sets ws) q.0 0) (get_or_in (sets ws) 0 q.0 (omega (arith, r.2)))).0 in
      low_mask (site_count ws) k (sites_range ws ok).1 (rw q.2 below)

  judged_low : Low (judged ws)
  judged_low =
      then_low _ _ rows_low (λ ok.
      then_low _ _ (told_low NoRoute (route_fault ws) (set_place ok (routed ws))) (λ _.
      told_low NoFan (missing_fan ws) (set_place ok (fanned ws))))

err_low : (r : Result (Unit {0}) SheetRefusal) (e : SheetRefusal) → r ≡ Err e → Low r → e.place < 2 ^ 32
err_low (Ok x) e s l = absurd (let z : ◌≡◌ {A = ℕ} 0 1 = cc in omega arith)
err_low (Err d) e s l = let z : d ≡ e = cc in rw z at l

pub place_fits : (ws : List ℕ) (e : SheetRefusal) → judged ws ≡ Err e → e.place < 2 ^ 32
place_fits ws e s = err_low (judged ws) e s (judged_low ws)
