-- Words and what they mean: there and back.
use Rattle.std.proofs.Common.{◌≡◌, ℕ, ◌+◌, ◌-◌, ◌*◌, ◌/◌, ◌%◌, ◌^◌, ◌<◌, ◌≤◌, Bool, true, false, ◌&&◌, eqb, ltb, leb, List, [], ◌∷◌, length, get_or, take, bit_or, fold, Contains, Some, None, Option, IsTrue, ◌↔◌, sym, refl, ap, ◌∙◌, subst, ⊎_elim, arith}
use Rattle.std.proofs.lemmas.Bool.{cases_lt, cases_Bool, ltb-true, lt-ltb, eqb-true, eq-eqb, ne_eqb, leb-true, and_parts, and_from, not_from_true, not_from_false, both_ways, cond-true, cond-false}
use Rattle.std.proofs.lemmas.List.{get_or_past, get_or-take, get_or_default, length-take-le}
use Rattle.std.proofs.lemmas.Nat.{or_shifted}
use Rattle.std.proofs.lemmas.Bool.Decides.{nat_tests}
use Rattle.sites.specs.Positions.{all_from}
use Rattle.sites.proofs.Positions.{all_at, all_by, each_is}
use Rattle.words.specs.declared.kind.Kind.{Kind}
use Rattle.words.specs.declared.kind.Kind.TheVariants.{Flood, Route, Fan}
use Rattle.words.specs.Paths.{fresh_at, site_ok, path?, zero_from}
use Rattle.words.specs.Kinds.{kind_number, kind_named, suits}
use Rattle.words.specs.Layout.{kind_field, count_field, site_fields, spare_field, tail_field, path_field, with_fields, packed}
use Rattle.words.specs.Words.{Meaning, lawful?, word_of, fields_as, meaning_as, meaning}

-- ---- paths

pub path_short : (p : List ℕ) → path? p ≡ true → length p ≤ 6
path_short p e = leb-true (length p) 6 (and_parts (leb (length p) 6) _ e).0

-- each site of a path is below 6; past its end there is 0
pub path_small : (p : List ℕ) → path? p ≡ true → (i : ℕ) → get_or p i 0 < 6
path_small p e i =
    let a = (and_parts (leb (length p) 6) (all_from (site_ok p) 0 (length p)) e).1 in
    ⊎_elim
    (λ l. ltb-true _ _ (and_parts (ltb (get_or p i 0) 6) (fresh_at p i) (all_at (site_ok p) 0 (length p) a i (omega arith) (omega arith))).0)
    (λ g. omega (arith, get_or_past p i 0 g))
    (cases_lt i (length p))

-- fields that are zero past n are those of their first n
pub padded_at : (xs : List ℕ) (n : ℕ) → n ≤ length xs → zero_from xs n ≡ true → (i : ℕ) → i < 6 → get_or (take n xs) i 0 ≡ get_or xs i 0
padded_at xs n h z i l =
    ⊎_elim
    (λ lt. get_or-take n xs i 0 lt)
    (λ ge. get_or_past (take n xs) i 0 (omega (arith, length-take-le n xs h))
    ∙ sym (eqb-true _ _ (all_at (λ i. eqb (get_or xs i 0) 0) n (6 - n) z i ge (omega arith))))
    (cases_lt i n)

pub same_fields : (top : ℕ) (xs ys : List ℕ) → ((i : ℕ) → i < 6 → get_or xs i 0 ≡ get_or ys i 0) → with_fields top xs ≡ with_fields top ys
same_fields top xs ys h =
    let a = h 0 (omega arith) in
    let b = h 1 (omega arith) in
    let c = h 2 (omega arith) in
    let d = h 3 (omega arith) in
    let e = h 4 (omega arith) in
    let f = h 5 (omega arith) in
    cc

-- six fields of which the first n are a path: what is packed
pub packed_padded : (kind : ℕ) (xs : List ℕ) (n tail : ℕ) → n ≤ length xs → zero_from xs n ≡ true →
    packed kind (take n xs) tail ≡ with_fields (kind * 8 + n) xs * 128 + tail
packed_padded kind xs n tail h z =
    let e = length-take-le n xs h in
    let d = same_fields (kind * 8 + length (take n xs)) (take n xs) xs (padded_at xs n h z) in
    let b : with_fields (kind * 8 + length (take n xs)) xs ≡ with_fields (kind * 8 + n) xs = ap (λ (k : ℕ). with_fields (kind * 8 + k) xs) e in
    ap (λ (x : ℕ). x * 128 + tail) (d ∙ b)

-- sites are different just where none stands among those before it
fresh_from : (s : List ℕ) (k : ℕ) → k < length s → (Contains (take k s) (get_or s k 0) → ⊥) → fresh_at s k ≡ true
fresh_from s k l none = all_by _ 0 k (λ j lo hi. not_from_false _ (ne_eqb _ _ (λ e.
    none (j, omega (arith, length-take-le k s (omega arith)), get_or-take k s j _ (omega arith) ∙ get_or_default s j _ 0 (omega arith) ∙ e))))

fresh_back : (s : List ℕ) (k : ℕ) → k < length s → fresh_at s k ≡ true → Contains (take k s) (get_or s k 0) → ⊥
fresh_back s k l f (j, lt, e) =
    let m = length-take-le k s (omega arith) in
    both_ways _ (not_from_true _ (eq-eqb _ _ (sym (get_or_default s j _ 0 (omega arith)) ∙ sym (get_or-take k s j _ (omega arith)) ∙ e))) (all_at _ 0 k f j (omega arith) (omega arith))

pub different : (s : List ℕ) (r : Bool) → (IsTrue r ↔ ((k : ℕ) → k < length s → (get_or s k 0 < 6) × (Contains (take k s) (get_or s k 0) → ⊥))) → r ≡ all_from (site_ok s) 0 (length s)
different s r h = each_is (site_ok s) (length s) r (
  λ t k l. let p = h.0 t k l in and_from _ _ (lt-ltb _ _ p.0) (fresh_from s k l p.1),
  λ f. h.1 (λ k l. let q = and_parts (ltb (get_or s k 0) 6) (fresh_at s k) (f k l) in (ltb-true _ _ q.0, fresh_back s k l q.1)),
)

-- ---- from a word to its meaning and back

pub whole : (w : ℕ) → spare_field w ≡ 0 → with_fields (kind_field w * 8 + count_field w) (site_fields w) * 128 + tail_field w ≡ w
whole w z =
    let a : w / 2 ^ 28 * 8 + w / 2 ^ 25 % 8 ≡ w / 2 ^ 25 = omega arith in
    let b : w / 2 ^ 25 * 8 + w / 2 ^ 22 % 8 ≡ w / 2 ^ 22 = omega arith in
    let c : w / 2 ^ 22 * 8 + w / 2 ^ 19 % 8 ≡ w / 2 ^ 19 = omega arith in
    let d : w / 2 ^ 19 * 8 + w / 2 ^ 16 % 8 ≡ w / 2 ^ 16 = omega arith in
    let e : w / 2 ^ 16 * 8 + w / 2 ^ 13 % 8 ≡ w / 2 ^ 13 = omega arith in
    let f : w / 2 ^ 13 * 8 + w / 2 ^ 10 % 8 ≡ w / 2 ^ 10 = omega arith in
    let g : w / 2 ^ 10 * 8 + w / 2 ^ 7 % 8 ≡ w / 2 ^ 7 = omega arith in
    let h : w / 2 ^ 7 * 128 + w % 16 ≡ w = omega arith in
    rw (a, b, c, d, e, f, g, h)

pub kind_back : (w : ℕ) (k : Kind) → kind_named w ≡ Some k → kind_number k ≡ w
kind_back w Flood e = grind (arith, nat_tests)
kind_back w Route e = grind (arith, nat_tests)
kind_back w Fan e = grind (arith, nat_tests)

pub count_small : (k : Kind) (n t : ℕ) → suits k n t ≡ true → n ≤ 6
count_small Flood n t e = grind (arith, nat_tests)
count_small Route n t e = grind (arith, nat_tests)
count_small Fan n t e = grind (arith, nat_tests)

pub tail_small : (k : Kind) (n t : ℕ) → suits k n t ≡ true → t < 16
tail_small Flood n t e = grind (arith, nat_tests)
tail_small Route n t e = grind (arith, nat_tests)
tail_small Fan n t e = grind (arith, nat_tests)

-- the tests that a word of a kind passes
abbrev pub passes : ℕ → Kind → Bool
passes w k = suits k (count_field w) (tail_field w) && (eqb (spare_field w) 0 && (path? (path_field w) && zero_from (site_fields w) (count_field w)))

pub reads_as : (w : ℕ) (k : Kind) → kind_named (kind_field w) ≡ Some k → passes w k ≡ true → meaning w ≡ Some (fields_as w k)
reads_as w k e p = simp (e, p)

pub refuses_as : (w : ℕ) (k : Kind) → kind_named (kind_field w) ≡ Some k → passes w k ≡ false → meaning w ≡ None
refuses_as w k e p = simp (e, p)

pub refuses_kind : (w : ℕ) → kind_named (kind_field w) ≡ None → meaning w ≡ None
refuses_kind w e = simp e

pub written_back : (w : ℕ) (k : Kind) → kind_named (kind_field w) ≡ Some k → passes w k ≡ true → word_of (fields_as w k) ≡ w
written_back w k e p =
    let a = and_parts (suits k (count_field w) (tail_field w)) _ p in
    let b = and_parts (eqb (spare_field w) 0) _ a.1 in
    let c = and_parts (path? (path_field w)) (zero_from (site_fields w) (count_field w)) b.1 in
    packed_padded (kind_number k) (site_fields w) (count_field w) (tail_field w) (count_small k (count_field w) (tail_field w) a.0) c.1
    ∙ ap (λ (x : ℕ). with_fields (x * 8 + count_field w) (site_fields w) * 128 + tail_field w) (kind_back (kind_field w) k e)
    ∙ whole w (eqb-true _ _ b.0)

-- a word that means something is the word of that
meant_back : (w : ℕ) (o : Option Kind) (m : Meaning) → kind_named (kind_field w) ≡ o → meaning_as w o ≡ Some m → word_of m ≡ w
meant_back w None m e h = absurd (let z : ◌≡◌ {A = ℕ} 0 1 = cc in omega arith)
meant_back w (Some k) m e h =
    ⊎_elim
    (λ t. let r : meaning_as w (Some k) ≡ Some (fields_as w k) = cond-true (passes w k) (Some (fields_as w k)) None t in
    let s : fields_as w k ≡ m = cc in ap word_of (sym s) ∙ written_back w k e t)
    (λ f. let r : meaning_as w (Some k) ≡ None = cond-false (passes w k) (Some (fields_as w k)) None f in absurd (let z : ◌≡◌ {A = ℕ} 0 1 = cc in omega arith))
    (cases_Bool (passes w k))

pub word_back : (w : ℕ) (m : Meaning) → meaning w ≡ Some m → word_of m ≡ w
word_back w m h = meant_back w (kind_named (kind_field w)) m refl h

-- what the program reads: the fields as an array, of which n are the path
pub read_ok : (w : ℕ) (k : Kind) (xs : List ℕ) (n : ℕ) → kind_named (kind_field w) ≡ Some k → suits k (count_field w) (tail_field w) ≡ true → spare_field w ≡ 0 →
    xs ≡ site_fields w → n ≡ count_field w → (path? (take n xs) && zero_from xs n) ≡ true →
    meaning w ≡ Some (record { kind = k; sites = take n xs; tail = tail_field w })
read_ok w k xs n e s z ex en p =
    let q : (path? (path_field w) && zero_from (site_fields w) (count_field w)) ≡ true =
    subst (λ (j : ℕ). (path? (take j (site_fields w)) && zero_from (site_fields w) j) ≡ true) en
    (subst (λ (ys : List ℕ). (path? (take n ys) && zero_from ys n) ≡ true) ex p) in
    reads_as w k e (and_from (suits k (count_field w) (tail_field w)) _ s (and_from (eqb (spare_field w) 0) _ (eq-eqb (spare_field w) 0 z) q))
    ∙ ap (λ (ys : List ℕ). Some (record { kind = k; sites = ys; tail = tail_field w })) (sym (ap (λ (ys : List ℕ). take n ys) ex ∙ ap (λ (j : ℕ). take j (site_fields w)) en))

-- words that mean the same are the same word
pub same_word : (w : ℕ) (m : Meaning) → meaning w ≡ Some m → (other : ℕ) → meaning other ≡ meaning w → other ≡ w
same_word w m e other h = sym (word_back other m (h ∙ e)) ∙ word_back w m e

-- ---- from a meaning to its word and back

-- a path in six fields
abbrev six : List ℕ → List ℕ
six p = get_or p 0 0 ∷ get_or p 1 0 ∷ get_or p 2 0 ∷ get_or p 3 0 ∷ get_or p 4 0 ∷ get_or p 5 0 ∷ []

six_front : (p : List ℕ) → length p ≤ 6 → take (length p) (six p) ≡ p
six_front [] h = refl
six_front (a ∷ []) h = refl
six_front (a ∷ b ∷ []) h = refl
six_front (a ∷ b ∷ c ∷ []) h = refl
six_front (a ∷ b ∷ c ∷ d ∷ []) h = refl
six_front (a ∷ b ∷ c ∷ d ∷ e ∷ []) h = refl
six_front (a ∷ b ∷ c ∷ d ∷ e ∷ f ∷ []) h = refl
six_front (a ∷ b ∷ c ∷ d ∷ e ∷ f ∷ g ∷ p) h = absurd (omega arith)

six_rest : (p : List ℕ) → length p ≤ 6 → zero_from (six p) (length p) ≡ true
six_rest [] h = refl
six_rest (a ∷ []) h = refl
six_rest (a ∷ b ∷ []) h = refl
six_rest (a ∷ b ∷ c ∷ []) h = refl
six_rest (a ∷ b ∷ c ∷ d ∷ []) h = refl
six_rest (a ∷ b ∷ c ∷ d ∷ e ∷ []) h = refl
six_rest (a ∷ b ∷ c ∷ d ∷ e ∷ f ∷ []) h = refl
six_rest (a ∷ b ∷ c ∷ d ∷ e ∷ f ∷ g ∷ p) h = absurd (omega arith)

-- ---- six sites, put one by one below what stands above them

abbrev pub put : ℕ → ℕ → ℕ
put above site = bit_or (above * 8 % 2 ^ 32) site

put_below : (a s : ℕ) → a < 2 ^ 29 → s < 8 → put a s ≡ a * 8 + s
put_below a s h l = let m : a * 8 % 2 ^ 32 ≡ a * 2 ^ 3 = omega arith in ap (λ (x : ℕ). bit_or x s) m ∙ or_shifted a 3 s l

pub put_all : (top : ℕ) (xs : List ℕ) → length xs ≡ 6 → ((k : ℕ) → k < 6 → get_or xs k 0 < 6) → top < 128 →
    (fold put top xs ≡ with_fields top xs) × (with_fields top xs < 2 ^ 25)
put_all top xs n small h =
    let q : six xs ≡ xs = subst (λ (k : ℕ). take k (six xs) ≡ xs) n (six_front xs (omega arith)) in
    let a = small 0 (omega arith) in
    let b = small 1 (omega arith) in
    let c = small 2 (omega arith) in
    let d = small 3 (omega arith) in
    let e = small 4 (omega arith) in
    let f = small 5 (omega arith) in
    let p0 = put_below top (get_or xs 0 0) (omega arith) (omega arith) in
    let p1 = put_below (top * 8 + get_or xs 0 0) (get_or xs 1 0) (omega arith) (omega arith) in
    let p2 = put_below ((top * 8 + get_or xs 0 0) * 8 + get_or xs 1 0) (get_or xs 2 0) (omega arith) (omega arith) in
    let p3 = put_below (((top * 8 + get_or xs 0 0) * 8 + get_or xs 1 0) * 8 + get_or xs 2 0) (get_or xs 3 0) (omega arith) (omega arith) in
    let p4 = put_below ((((top * 8 + get_or xs 0 0) * 8 + get_or xs 1 0) * 8 + get_or xs 2 0) * 8 + get_or xs 3 0) (get_or xs 4 0) (omega arith) (omega arith) in
    let p5 = put_below (((((top * 8 + get_or xs 0 0) * 8 + get_or xs 1 0) * 8 + get_or xs 2 0) * 8 + get_or xs 3 0) * 8 + get_or xs 4 0) (get_or xs 5 0) (omega arith) (omega arith) in
    (ap (λ (ys : List ℕ). fold put top ys) (sym q) ∙ rw (p0, p1, p2, p3, p4, p5), omega arith)

-- the parts of a word, from its highest down
module _ (k n a b c d e f t : ℕ) (hk : k < 16) (hn : n < 8) (ha : a < 8) (hb : b < 8) (hc : c < 8) (hd : d < 8) (he : e < 8) (hf : f < 8) (ht : t < 16) where
  parts : (w : ℕ) → w ≡ (((((((k * 8 + n) * 8 + a) * 8 + b) * 8 + c) * 8 + d) * 8 + e) * 8 + f) * 128 + t →
      (kind_field w ≡ k) × (count_field w ≡ n) × (w / 2 ^ 22 % 8 ≡ a) × (w / 2 ^ 19 % 8 ≡ b) × (w / 2 ^ 16 % 8 ≡ c) × (w / 2 ^ 13 % 8 ≡ d) × (w / 2 ^ 10 % 8 ≡ e) × (w / 2 ^ 7 % 8 ≡ f) × (spare_field w ≡ 0) × (tail_field w ≡ t)
  parts w h = (omega arith, omega arith, omega arith, omega arith, omega arith, omega arith, omega arith, omega arith, omega arith, omega arith)

kind_small : (k : Kind) → kind_number k < 16
kind_small Flood = omega arith
kind_small Route = omega arith
kind_small Fan = omega arith

kind_again : (k : Kind) → kind_named (kind_number k) ≡ Some k
kind_again Flood = refl
kind_again Route = refl
kind_again Fan = refl

pub read_back : (m : Meaning) → lawful? m ≡ true → meaning (word_of m) ≡ Some m
read_back m h =
    let l = and_parts (path? m.sites) (suits m.kind (length m.sites) m.tail) h in
    let s = path_small m.sites l.0 in
    let short = path_short m.sites l.0 in
    let lt : (i : ℕ) → get_or m.sites i 0 < 8 = λ i. omega (arith, s i) in
    let q = parts (kind_number m.kind) (length m.sites) (get_or m.sites 0 0) (get_or m.sites 1 0) (get_or m.sites 2 0) (get_or m.sites 3 0) (get_or m.sites 4 0) (get_or m.sites 5 0) m.tail
    (kind_small m.kind) (omega arith) (lt 0) (lt 1) (lt 2) (lt 3) (lt 4) (lt 5) (tail_small m.kind (length m.sites) m.tail l.1) (word_of m) refl in
    let fields : site_fields (word_of m) ≡ six m.sites = simp (q.2, q.3, q.4, q.5, q.6, q.7) in
    let front : path_field (word_of m) ≡ m.sites = simp (q.1, fields) (six_front m.sites short) in
    let rest : zero_from (site_fields (word_of m)) (count_field (word_of m)) ≡ true =
    subst (λ (n : ℕ). zero_from (site_fields (word_of m)) n ≡ true) (sym q.1)
    (subst (λ (xs : List ℕ). zero_from xs (length m.sites) ≡ true) (sym fields) (six_rest m.sites short)) in
    let k : kind_named (kind_field (word_of m)) ≡ Some m.kind = ap kind_named q.0 ∙ kind_again m.kind in
    let t : passes (word_of m) m.kind ≡ true = and_from _ _ (simp (q.1, q.9) l.1) (and_from _ _ (eq-eqb _ _ q.8) (and_from _ _ (ap path? front ∙ l.0) rest)) in
    reads_as (word_of m) m.kind k t ∙ again front q.9
  where
    again : path_field (word_of m) ≡ m.sites → tail_field (word_of m) ≡ m.tail → Some (fields_as (word_of m) m.kind) ≡ Some m
    again f t =
        ap (λ (s : List ℕ). Some (record { kind = m.kind; sites = s; tail = tail_field (word_of m) })) f
        ∙ ap (λ (x : ℕ). Some (record { kind = m.kind; sites = m.sites; tail = x })) t
