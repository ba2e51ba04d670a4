-- Paths without their last site, and their words.
use Rattle.std.specs.Prelude.{IsOk}
use Rattle.std.proofs.Common.{◌≡◌, ℕ, suc, ◌-◌, ◌^◌, ◌<◌, ◌≤◌, true, not, eqb, ltb, leb, List, [], ◌∷◌, length, get_or, take, Ok, Err, Result, sym, refl, ap, ◌∙◌, subst, arith}
use Rattle.std.proofs.lemmas.List.{get_or-take, length-take-le}
use Rattle.std.proofs.lemmas.Bool.{and_parts, and_from, le-leb, both_ways}
use Rattle.sites.specs.declared.refusal.Refusal.{Refusal}
use Rattle.sites.specs.Lists.{front, final}
use Rattle.sites.specs.Positions.{all_from}
use Rattle.sites.proofs.Positions.{all_at, all_by}
use Rattle.words.specs.Paths.{fresh_at, site_ok, path?}
use Rattle.words.specs.Words.{MakesPath, sites_of}
use Rattle.words.specs.declared.path.Path.{Path}
use Rattle.words.proofs.Codec.{path_short, path_small}
use Rattle.notebooks.specs.Floods.{flood_word}
use Rattle.notebooks.specs.Laws.{Carried}
use Rattle.tables.specs.Entries.{path_word}

pub front_take : (p : List ℕ) → take (length p - 1) p ≡ front p
front_take [] = refl
front_take (x ∷ []) = refl
front_take (x ∷ y ∷ r) =
    let e : length (x ∷ y ∷ r) - 1 ≡ suc (length (y ∷ r) - 1) = omega arith in
    ap (λ m. take m (x ∷ y ∷ r)) e ∙ ap (λ t. x ∷ t) (front_take (y ∷ r))

pub final_at : (p : List ℕ) → get_or p (length p - 1) 0 ≡ final p
final_at [] = refl
final_at (x ∷ []) = refl
final_at (x ∷ y ∷ r) =
    let e : length (x ∷ y ∷ r) - 1 ≡ suc (length (y ∷ r) - 1) = omega arith in
    ap (λ m. get_or (x ∷ y ∷ r) m 0) e ∙ final_at (y ∷ r)

-- the first sites of a path are a path
path_take : (m : ℕ) (p : List ℕ) → m ≤ length p → path? p ≡ true → path? (take m p) ≡ true
path_take m p le h =
    let q : List ℕ = take m p in
    let parts = and_parts (leb (length p) 6) (all_from (site_ok p) 0 (length p)) h in
    let long : length q ≡ m = length-take-le m p le in
    let short = path_short p h in
    let at : (i : ℕ) → i < m → get_or q i 0 ≡ get_or p i 0 = λ i l. get_or-take m p i 0 l in
    and_from (leb (length q) 6) (all_from (site_ok q) 0 (length q)) (le-leb (length q) 6 (omega arith))
    (all_by (site_ok q) 0 (length q) (λ i lo hi.
    let ok = all_at (site_ok p) 0 (length p) parts.1 i (omega arith) (omega arith) in
    let both = and_parts (ltb (get_or p i 0) 6) (fresh_at p i) ok in
    and_from (ltb (get_or q i 0) 6) (fresh_at q i)
    (ap (λ x. ltb x 6) (at i (omega arith)) ∙ both.0)
    (all_by (λ j. not (eqb (get_or q j 0) (get_or q i 0))) 0 i (λ j a b.
    ap (λ x. not (eqb x (get_or q i 0))) (at j (omega arith))
    ∙ ap (λ x. not (eqb (get_or p j 0) x)) (at i (omega arith))
    ∙ all_at (λ j. not (eqb (get_or p j 0) (get_or p i 0))) 0 i both.1 j (omega arith) (omega arith)))))

pub path_front : (p : List ℕ) → path? p ≡ true → path? (front p) ≡ true
path_front p h = ap path? (sym (front_take p)) ∙ path_take (length p - 1) p (omega arith) h

pub front_long : (p : List ℕ) → length (front p) ≡ length p - 1
front_long p = ap length (sym (front_take p)) ∙ length-take-le (length p - 1) p (omega arith)

pub front_carried : (p : List ℕ) → path? p ≡ true → Carried (front p)
front_carried p h = record { path = path_front p h; short = omega (arith, front_long p, path_short p h) }

pub final_small : (p : List ℕ) → path? p ≡ true → final p < 6
final_small p h = subst (λ (x : ℕ). x < 6) (final_at p) (path_small p h (length p - 1))

pub word_small : (p : List ℕ) → Carried p → path_word p < 2 ^ 32 - 1
unfolding flood_word
word_small p c =
    let s = path_small p c.path in
    let short = c.short in
    let a = s 0 in
    let b = s 1 in
    let d = s 2 in
    let e = s 3 in
    let f = s 4 in
    let g = s 5 in
    omega arith

-- the first sites of a path but its last one, made a path
pub front_taken : (p ss : List ℕ) (m : ℕ) → ss ≡ p → m ≡ length ss - 1 → take m ss ≡ front p
front_taken p ss m is at =
    let e : m ≡ length p - 1 = at ∙ ap (λ (t : List ℕ). length t - 1) is in
    ap (take m) is ∙ ap (λ k. take k p) e ∙ front_take p

pub front_made : (p : Path) (ss : List ℕ) (m : ℕ) (r : Result Path Refusal) → ss ≡ sites_of p → m ≡ length ss - 1 → MakesPath (take m ss) r → IsOk r
front_made p ss m (Ok q) is at made = refl
front_made p ss m (Err d) is at made =
    absurd (both_ways (path? (front (sites_of p))) (sym (ap path? (front_taken (sites_of p) ss m is at)) ∙ made.0) (path_front (sites_of p) p.lawful))
