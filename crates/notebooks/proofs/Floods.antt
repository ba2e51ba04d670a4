-- Flood words: there and back, and what a lane says.
use Rattle.std.proofs.Common.{◌≡◌, ℕ, zero, suc, ◌+◌, ◌<◌, ◌≤◌, Bool, true, false, cond, not, ◌&&◌, eqb, ltb, leb, List, [], ◌∷◌, map, length, get_or, Some, None, Option, sym, refl, ap, ◌∙◌, subst, inl, inr, ⊎_elim, arith}
use Rattle.std.specs.List.{AllByRecursion}
use Rattle.std.proofs.lemmas.List.{length-take-le}
use Rattle.std.proofs.lemmas.Bool.{eqb-true, eqb-false, ne_eqb, le-leb, leb-true, lt-ltb, cases_Bool, and_parts, and_from, not_from_false, cond-true, cond-false}
use Rattle.sites.specs.Lists.{In, Distinct, same_path}
use Rattle.sites.proofs.Positions.{all_by}
use Rattle.sites.proofs.Lists.{all_in, all_of, get_or_in, same_path_refl, same_path_true}
use Rattle.words.specs.declared.kind.Kind.{Kind}
use Rattle.words.specs.declared.kind.Kind.TheVariants.{Flood, Route, Fan}
use Rattle.words.specs.Paths.{fresh_at, site_ok, path?, zero_from}
use Rattle.words.specs.Kinds.{kind_named, suits}
use Rattle.words.specs.Layout.{kind_field, count_field, site_fields, spare_field, tail_field, path_field}
use Rattle.words.specs.Words.{Meaning, lawful?, word_of, fields_as, meaning_as, meaning}
use Rattle.words.proofs.Codec.{count_small, passes, read_back, word_back}
use Rattle.theory.specs.Network.{Network}
use Rattle.theory.specs.Flooding.{Word, first_bit, expected}
use Rattle.theory.proofs.Paths.{expected_are, expected_short}
use Rattle.notebooks.specs.Floods.{flood_meaning, flood_word, flood_of_kind, flood_of, flood_in, and_then, floods, first_of_two}
use Rattle.notebooks.specs.Laws.{Carried, FloodLaws}

-- ---- paths that a flood word can carry

distinct_at : (p : List ℕ) (i j : ℕ) → Distinct p → i < j → j < length p → get_or p i 0 ≡ get_or p j 0 → ⊥
distinct_at [] i j d l k e = omega arith
distinct_at (x ∷ p) zero zero d l k e = omega arith
distinct_at (x ∷ p) zero (suc j) d l k e = d.0 (subst (λ (y : ℕ). In y p) (sym e) (get_or_in p 0 j (omega arith)))
distinct_at (x ∷ p) (suc i) zero d l k e = omega arith
distinct_at (x ∷ p) (suc i) (suc j) d l k e = distinct_at p i j d.1 (omega arith) (omega arith) e

pub path_from : (p : List ℕ) → length p ≤ 6 → AllByRecursion (λ s. s < 6) p → Distinct p → path? p ≡ true
path_from p l sites d =
    and_from (leb (length p) 6) _ (le-leb (length p) 6 l) (all_by (site_ok p) 0 (length p) (λ i a b.
    and_from (ltb (get_or p i 0) 6) (fresh_at p i)
    (lt-ltb (get_or p i 0) 6 (all_in (λ s. s < 6) p (get_or p i 0) sites (get_or_in p 0 i (omega arith))))
    (all_by (λ j. not (eqb (get_or p j 0) (get_or p i 0))) 0 i (λ j c e.
    not_from_false (eqb (get_or p j 0) (get_or p i 0)) (ne_eqb (get_or p j 0) (get_or p i 0) (distinct_at p j i d (omega arith) (omega arith)))))))

-- the paths along which one of at most six sites expects a bit are such
pub expected_carried : (N : Network) (v k : ℕ) (q : List ℕ) → N.n ≤ 6 → v < N.n → In q (expected N v k) → Carried q
expected_carried N v k q small below i =
    let x = expected_are N v k q i in
    let short : length q ≤ 5 = omega (arith, x.path.long, expected_short N v k q below i) in
    record {
      path = path_from q (omega arith) (all_of (λ s. s < 6) q (λ s j. omega (arith, all_in (λ s. s < N.n) q s x.path.sites j))) x.path.distinct;
      short = short;
    }

-- ---- what a word means is lawful

lawful_as : (w : ℕ) (o : Option Kind) (m : Meaning) → meaning_as w o ≡ Some m → lawful? m ≡ true
lawful_as w None m h = absurd (let z : ◌≡◌ {A = ℕ} 0 1 = cc in omega arith)
lawful_as w (Some k) m h =
    ⊎_elim
    (λ t.
    let r : meaning_as w (Some k) ≡ Some (fields_as w k) = cond-true (passes w k) (Some (fields_as w k)) None t in
    let s : fields_as w k ≡ m = cc in
    let a = and_parts (suits k (count_field w) (tail_field w)) _ t in
    let b = and_parts (eqb (spare_field w) 0) _ a.1 in
    let c = and_parts (path? (path_field w)) (zero_from (site_fields w) (count_field w)) b.1 in
    let long : length (path_field w) ≡ count_field w = length-take-le (count_field w) (site_fields w) (count_small k (count_field w) (tail_field w) a.0) in
    let suited : suits k (length (path_field w)) (tail_field w) ≡ true = ap (λ (n : ℕ). suits k n (tail_field w)) long ∙ a.0 in
    subst (λ (x : Meaning). lawful? x ≡ true) s (and_from (path? (path_field w)) _ c.0 suited))
    (λ f. let r : meaning_as w (Some k) ≡ None = cond-false (passes w k) (Some (fields_as w k)) None f in absurd (let z : ◌≡◌ {A = ℕ} 0 1 = cc in omega arith))
    (cases_Bool (passes w k))

pub meant_lawful : (w : ℕ) (m : Meaning) → meaning w ≡ Some m → lawful? m ≡ true
meant_lawful w m h = lawful_as w (kind_named (kind_field w)) m h

-- ---- there and back

abbrev bit_tail : Bool → ℕ
bit_tail b = cond b 1 0

tail_bit : (b : Bool) → eqb (bit_tail b) 1 ≡ b
tail_bit true = refl
tail_bit false = refl

tail_small : (b : Bool) → leb (bit_tail b) 1 ≡ true
tail_small true = refl
tail_small false = refl

bit_back : (t : ℕ) → t ≤ 1 → bit_tail (eqb t 1) ≡ t
bit_back zero l = refl
bit_back (suc zero) l = refl
bit_back (suc (suc t)) l = absurd (omega arith)

pub flood_back : (w : Word) → Carried w.path → flood_in (flood_word w) ≡ Some w
unfolding flood_in flood_word
flood_back w c =
    let lawful : lawful? (flood_meaning w) ≡ true = and_from (path? w.path) _ c.path (and_from (leb (length w.path) 5) _ (le-leb (length w.path) 5 c.short) (tail_small w.bit)) in
    ap flood_of (read_back (flood_meaning w) lawful) ∙ ap (λ (b : Bool). Some (record { path = w.path; bit = b })) (tail_bit w.bit)

-- a lawful word that says something: of the flood kind, with its path and its bit
record Says (m : Meaning) (w : Word) : Type 0 where
  pub same : flood_meaning w ≡ m
  pub carried : Carried w.path

says_as : (k : Kind) (p : List ℕ) (t : ℕ) (w : Word) → lawful? (record { kind = k; sites = p; tail = t }) ≡ true →
    flood_of_kind k (record { kind = k; sites = p; tail = t }) ≡ Some w → Says (record { kind = k; sites = p; tail = t }) w
says_as Flood p t w l e =
    let a = and_parts (path? p) (leb (length p) 5 && leb t 1) l in
    let b = and_parts (leb (length p) 5) (leb t 1) a.1 in
    let s : record { path = p; bit = eqb t 1 } ≡ w = cc in
    subst (λ (x : Word). Says (record { kind = Flood; sites = p; tail = t }) x) s (record {
      same = ap (λ (x : ℕ). record { kind = Flood; sites = p; tail = x }) (bit_back t (leb-true t 1 b.1));
      carried = record { path = a.0; short = leb-true (length p) 5 b.0 };
    })
says_as Route p t w l e = absurd (let z : ◌≡◌ {A = ℕ} 0 1 = cc in omega arith)
says_as Fan p t w l e = absurd (let z : ◌≡◌ {A = ℕ} 0 1 = cc in omega arith)

says_of : (x : ℕ) (o : Option Meaning) (w : Word) → meaning x ≡ o → flood_of o ≡ Some w → (flood_word w ≡ x) × Carried w.path
unfolding flood_word
says_of x None w h e = absurd (let z : ◌≡◌ {A = ℕ} 0 1 = cc in omega arith)
says_of x (Some m) w h e =
    let s = says_as m.kind m.sites m.tail w (meant_lawful x m h) e in
    (ap word_of s.same ∙ word_back x m h, s.carried)

pub says : (x : ℕ) (w : Word) → flood_in x ≡ Some w → (flood_word w ≡ x) × Carried w.path
unfolding flood_in
says x w e = says_of x (meaning x) w refl e

pub flood_two : (p : List ℕ) → flood_word (record { path = p; bit = true }) ≡ flood_word (record { path = p; bit = false }) + 1
unfolding flood_word
flood_two p = omega arith

pub flood_some : (w : Word) → 0 < flood_word w
unfolding flood_word
flood_some w = omega arith

pub flood_one : (a b : Word) → Carried a.path → Carried b.path → flood_word a ≡ flood_word b → a ≡ b
flood_one a b c d e =
    let f : Some a ≡ Some b = sym (flood_back a c) ∙ ap flood_in e ∙ flood_back b d in cc

-- ---- what a lane says

module _ (p : List ℕ) (carried : Carried p) where
  abbrev zero_word : ℕ
  zero_word = flood_word (record { path = p; bit = false })

  abbrev one_word : ℕ
  one_word = flood_word (record { path = p; bit = true })

  -- a word that is none of the two says another path or nothing
  skipped : (x : ℕ) (ws : List Word) (o : Option Word) → flood_in x ≡ o → (x ≡ zero_word → ⊥) → (x ≡ one_word → ⊥) → first_bit (and_then o ws) p ≡ first_bit ws p
  unfolding first_bit
  skipped x ws None e a b = refl
  skipped x ws (Some w) e a b = cond-false (same_path w.path p) w.bit (first_bit ws p) (⊎_elim
      (λ (s : same_path w.path p ≡ true).
      let same : w.path ≡ p = same_path_true w.path p s in
      let back : x ≡ flood_word (record { path = p; bit = w.bit }) = sym (says x w e).0 ∙ ap (λ (q : List ℕ). flood_word (record { path = q; bit = w.bit })) same in
      absurd (either w.bit back))
      (λ s. s)
      (cases_Bool (same_path w.path p)))
    where
      either : (c : Bool) → x ≡ flood_word (record { path = p; bit = c }) → ⊥
      either true q = b q
      either false q = a q

  taken : (c : Bool) (x : ℕ) (ws : List Word) → x ≡ flood_word (record { path = p; bit = c }) → first_bit (and_then (flood_in x) ws) p ≡ c
  unfolding first_bit
  taken c x ws e =
      ap (λ (o : Option Word). first_bit (and_then o ws) p) (ap flood_in e ∙ flood_back (record { path = p; bit = c }) carried)
      ∙ cond-true (same_path p p) c (first_bit ws p) (same_path_refl p)

  pub first_word : (ws : List ℕ) → first_of_two zero_word ws ≡ first_bit (floods ws) p
  unfolding floods first_bit
  first_word [] = refl
  first_word (w ∷ ws) = ⊎_elim
      (λ (a : eqb w zero_word ≡ true). cond-true (eqb w zero_word) false _ a ∙ sym (taken false w (floods ws) (eqb-true w zero_word a)))
      (λ a. cond-false (eqb w zero_word) false _ a ∙ ⊎_elim
      (λ (b : eqb w (zero_word + 1) ≡ true). cond-true (eqb w (zero_word + 1)) true _ b ∙ sym (taken true w (floods ws) (eqb-true w (zero_word + 1) b ∙ sym (flood_two p))))
      (λ b. cond-false (eqb w (zero_word + 1)) true _ b ∙ first_word ws
      ∙ sym (skipped w (floods ws) (flood_in w) refl (eqb-false w zero_word a) (λ q. eqb-false w (zero_word + 1) b (q ∙ flood_two p))))
      (cases_Bool (eqb w (zero_word + 1))))
      (cases_Bool (eqb w zero_word))

pub lane_back : (ws : List Word) → ((w : Word) → In w ws → Carried w.path) → floods (map flood_word ws) ≡ ws
unfolding floods
lane_back [] c = refl
lane_back (w ∷ ws) c =
    ap (λ (o : Option Word). and_then o (floods (map flood_word ws))) (flood_back w (c w (inl refl))) ∙ ap (λ (x : List Word). w ∷ x) (lane_back ws (λ x i. c x (inr i)))

pub flood_laws : FloodLaws
flood_laws = record {
  read_back = flood_back;
  word_back = λ x w e. (says x w e).0;
  says_a_path = λ x w e. (says x w e).1;
  one_word_each = flood_one;
  two_words = flood_two;
  not_zero = flood_some;
  first_word = λ p ws c. first_word p c ws;
  lane_back = lane_back;
}
