-- Members of lists, lists with no element twice, lists in order, paths and one more site.
use Rattle.std.proofs.Common.{◌≡◌, ℕ, zero, suc, ◌+◌, ◌<◌, ◌≤◌, Bool, true, false, cond, not, ◌&&◌, eqb, ◌⊎◌, List, [], ◌∷◌, ◌++◌, map, length, get_or, filter, sym, refl, ap, ◌∙◌, subst, inl, inr, ⊎_elim, arith, length-append}
use Rattle.std.specs.List.{AllByRecursion, range_with_len}
use Rattle.std.proofs.lemmas.Bool.{eqb-true, eq-eqb, ne_eqb, cases_eq, cases_Bool, both_ways, and_parts, or_cases, or_left, or_right, cond-false, not-true}
use Rattle.std.proofs.ByRecursion.{All-append}
use Rattle.sites.specs.Lists.{In, Distinct, has, front, final, same_path, join_all}

-- ---- members

pub all_in : {X : Type 0} (P : X → Type 0) (xs : List X) (x : X) → AllByRecursion P xs → In x xs → P x
all_in P [] x a i = absurd i
all_in P (y ∷ ys) x a (inl e) = subst P (sym e) a.0
all_in P (y ∷ ys) x a (inr i) = all_in P ys x a.1 i

pub all_of : {X : Type 0} (P : X → Type 0) (xs : List X) → ((x : X) → In x xs → P x) → AllByRecursion P xs
all_of P [] h = tt
all_of P (y ∷ ys) h = (h y (inl refl), all_of P ys (λ x i. h x (inr i)))

pub all_left : {X : Type 0} (P : X → Type 0) (xs ys : List X) → AllByRecursion P (xs ++ ys) → AllByRecursion P xs
all_left P [] ys a = tt
all_left P (x ∷ xs) ys a = (a.0, all_left P xs ys a.1)

pub in_left : {X : Type 0} (xs ys : List X) (x : X) → In x xs → In x (xs ++ ys)
in_left [] ys x i = absurd i
in_left (y ∷ xs) ys x (inl e) = inl e
in_left (y ∷ xs) ys x (inr i) = inr (in_left xs ys x i)

pub in_right : {X : Type 0} (xs ys : List X) (x : X) → In x ys → In x (xs ++ ys)
in_right [] ys x i = i
in_right (y ∷ xs) ys x i = inr (in_right xs ys x i)

pub in_append : {X : Type 0} (xs ys : List X) (x : X) → In x (xs ++ ys) → In x xs ⊎ In x ys
in_append [] ys x i = inr i
in_append (y ∷ xs) ys x (inl e) = inl (inl e)
in_append (y ∷ xs) ys x (inr i) = ⊎_elim (λ j. inl (inr j)) (λ j. inr j) (in_append xs ys x i)

pub in_map : {X Y : Type 0} (g : X → Y) (xs : List X) (x : X) → In x xs → In (g x) (map g xs)
in_map g [] x i = absurd i
in_map g (y ∷ xs) x (inl e) = inl (ap g e)
in_map g (y ∷ xs) x (inr i) = inr (in_map g xs x i)

pub in_mapped : {X Y : Type 0} (g : X → Y) (xs : List X) (y : Y) → In y (map g xs) → (x : X) × In x xs × (y ≡ g x)
in_mapped g [] y i = absurd i
in_mapped g (x ∷ xs) y (inl e) = (x, inl refl, e)
in_mapped g (x ∷ xs) y (inr i) = let r = in_mapped g xs y i in (r.0, inr r.1, r.2)

pub map_same : {X Y : Type 0} (g h : X → Y) (xs : List X) → ((x : X) → In x xs → g x ≡ h x) → map g xs ≡ map h xs
map_same g h [] e = refl
map_same g h (x ∷ xs) e = let a = e x (inl refl) in let b = map_same g h xs (λ y i. e y (inr i)) in cc

pub in_join_all : {X : Type 0} (xss : List (List X)) (xs : List X) (x : X) → In xs xss → In x xs → In x (join_all xss)
in_join_all [] xs x i j = absurd i
in_join_all (ys ∷ yss) xs x (inl e) j = in_left ys (join_all yss) x (subst (λ l. In x l) e j)
in_join_all (ys ∷ yss) xs x (inr i) j = in_right ys (join_all yss) x (in_join_all yss xs x i j)

pub in_joined : {X : Type 0} (xss : List (List X)) (x : X) → In x (join_all xss) → (xs : List X) × In xs xss × In x xs
in_joined [] x i = absurd i
in_joined (ys ∷ yss) x i = ⊎_elim (λ j. (ys, inl refl, j)) (λ j. let r = in_joined yss x j in (r.0, inr r.1, r.2)) (in_append ys (join_all yss) x i)

kept_step : {X : Type 0} (t : X → Bool) (y : X) (xs : List X) (x : X) (b : Bool) → t y ≡ b → t x ≡ true → (In x xs → In x (filter t xs)) →
    In x (y ∷ xs) → In x (cond b (y ∷ filter t xs) (filter t xs))
kept_step t y xs x true d h k (inl e) = inl e
kept_step t y xs x true d h k (inr j) = inr (k j)
kept_step t y xs x false d h k (inl e) = absurd (both_ways (t y) d (ap t (sym e) ∙ h))
kept_step t y xs x false d h k (inr j) = k j

pub in_kept : {X : Type 0} (t : X → Bool) (xs : List X) (x : X) → In x xs → t x ≡ true → In x (filter t xs)
in_kept t [] x i h = absurd i
in_kept t (y ∷ xs) x i h = kept_step t y xs x (t y) refl h (λ j. in_kept t xs x j h) i

pub kept_in : {X : Type 0} (t : X → Bool) (xs : List X) (x : X) → In x (filter t xs) → In x xs × (t x ≡ true)
kept_in t [] x i = absurd i
kept_in {X} t (y ∷ xs) x i = go (t y) refl (kept_in t xs x) i
  where
    go : (b : Bool) → t y ≡ b → (In x (filter t xs) → In x xs × (t x ≡ true)) → In x (cond b (y ∷ filter t xs) (filter t xs)) → In x (y ∷ xs) × (t x ≡ true)
    go true d k (inl e) = (inl e, ap t e ∙ d)
    go true d k (inr j) = let r = k j in (inr r.0, r.1)
    go false d k j = let r = k j in (inr r.0, r.1)

pub in_counting : (a n x : ℕ) → a ≤ x → x < a + n → In x (range_with_len a n)
in_counting a zero x h k = absurd (omega arith)
in_counting a (suc n) x h k = ⊎_elim (λ e. inl (sym e)) (λ d. inr (in_counting (a + 1) n x (omega arith) (omega arith))) (cases_eq a x)

pub counting_below : (a n x : ℕ) → In x (range_with_len a n) → x < a + n
counting_below a zero x i = absurd i
counting_below a (suc n) x (inl e) = omega arith
counting_below a (suc n) x (inr i) = omega (arith, counting_below (a + 1) n x i)

pub counting_from : (a n x : ℕ) → In x (range_with_len a n) → a ≤ x
counting_from a zero x i = absurd i
counting_from a (suc n) x (inl e) = omega arith
counting_from a (suc n) x (inr i) = omega (arith, counting_from (a + 1) n x i)

pub has_in : (x : ℕ) (xs : List ℕ) → In x xs → has x xs ≡ true
has_in x [] i = absurd i
has_in x (y ∷ ys) (inl e) = or_left (eqb x y) (has x ys) (eq-eqb x y e)
has_in x (y ∷ ys) (inr i) = or_right (eqb x y) (has x ys) (has_in x ys i)

pub has_out : (x : ℕ) (xs : List ℕ) → has x xs ≡ true → In x xs
has_out x [] e = absurd (both_ways false refl e)
has_out x (y ∷ ys) e = ⊎_elim (λ k. inl (eqb-true x y k)) (λ k. inr (has_out x ys k)) (or_cases (eqb x y) (has x ys) e)

pub not_has : (x : ℕ) (xs : List ℕ) → (In x xs → ⊥) → has x xs ≡ false
not_has x [] h = refl
not_has x (y ∷ ys) h = rw (ne_eqb x y (λ e. h (inl e))) (not_has x ys (λ i. h (inr i)))

pub lacks : (x : ℕ) (xs : List ℕ) → not (has x xs) ≡ true → In x xs → ⊥
lacks x xs h i = both_ways (has x xs) (not-true (has x xs) h) (has_in x xs i)

pub place_of : {X : Type 0} (xs : List X) (x d : X) → In x xs → (p : ℕ) × (p < length xs) × (get_or xs p d ≡ x)
place_of [] x d i = absurd i
place_of (y ∷ xs) x d (inl e) = (0, omega arith, sym e)
place_of (y ∷ xs) x d (inr i) = let r = place_of xs x d i in (suc r.0, omega (arith, r.1), r.2)

pub get_or_in : {X : Type 0} (xs : List X) (d : X) (p : ℕ) → p < length xs → In (get_or xs p d) xs
get_or_in [] d p l = absurd (omega arith)
get_or_in (x ∷ xs) d zero l = inl refl
get_or_in (x ∷ xs) d (suc p) l = inr (get_or_in xs d p (omega arith))

-- ---- no element twice

pub distinct_left : {X : Type 0} (xs ys : List X) → Distinct (xs ++ ys) → Distinct xs
distinct_left [] ys d = tt
distinct_left (x ∷ xs) ys d = ((λ i. d.0 (in_left xs ys x i)), distinct_left xs ys d.1)

pub distinct_apart : {X : Type 0} (xs ys : List X) (s : X) → Distinct (xs ++ ys) → In s xs → In s ys → ⊥
distinct_apart [] ys s d i j = i
distinct_apart (x ∷ xs) ys s d (inl e) j = d.0 (in_right xs ys x (subst (λ z. In z ys) e j))
distinct_apart (x ∷ xs) ys s d (inr i) j = distinct_apart xs ys s d.1 i j

pub distinct_append : {X : Type 0} (xs ys : List X) → Distinct xs → Distinct ys → ((s : X) → In s xs → In s ys → ⊥) → Distinct (xs ++ ys)
distinct_append [] ys d e apart = e
distinct_append (x ∷ xs) ys d e apart =
    ((λ i. ⊎_elim d.0 (λ j. apart x (inl refl) j) (in_append xs ys x i)), distinct_append xs ys d.1 e (λ s i j. apart s (inr i) j))

pub distinct_push : {X : Type 0} (xs : List X) (s : X) → Distinct xs → (In s xs → ⊥) → Distinct (xs ++ s ∷ [])
distinct_push xs s d new = distinct_append xs (s ∷ []) d ((λ i. i), tt) (λ x i j. ⊎_elim (λ e. new (subst (λ z. In z xs) e i)) (λ b. b) j)

-- ---- in order

-- each element comes before all later ones
abbrev pub Sorted : {X : Type 0} → (X → X → Type 0) → List X → Type 0
Sorted R [] = Unit {0}
Sorted R (x ∷ xs) = AllByRecursion (R x) xs × Sorted R xs

pub sorted_at : {X : Type 0} (R : X → X → Type 0) (xs : List X) (d : X) → Sorted R xs → (i j : ℕ) → i < j → j < length xs → R (get_or xs i d) (get_or xs j d)
sorted_at R [] d s i j l m = absurd (omega arith)
sorted_at R (x ∷ xs) d s zero zero l m = absurd (omega arith)
sorted_at R (x ∷ xs) d s zero (suc j) l m = all_in (R x) xs (get_or xs j d) s.0 (get_or_in xs d j (omega arith))
sorted_at R (x ∷ xs) d s (suc i) zero l m = absurd (omega arith)
sorted_at R (x ∷ xs) d s (suc i) (suc j) l m = sorted_at R xs d s.1 i j (omega arith) (omega arith)

pub sorted_distinct : {X : Type 0} (R : X → X → Type 0) → ((x : X) → R x x → ⊥) → (xs : List X) → Sorted R xs → Distinct xs
sorted_distinct R never [] s = tt
sorted_distinct R never (x ∷ xs) s = ((λ i. never x (all_in (R x) xs x s.0 i)), sorted_distinct R never xs s.1)

pub sorted_weaker : {X : Type 0} (R S : X → X → Type 0) (xs : List X) → ((x y : X) → In x xs → In y xs → R x y → S x y) → Sorted R xs → Sorted S xs
sorted_weaker R S [] h s = tt
sorted_weaker R S (x ∷ xs) h s =
    (all_of (S x) xs (λ y i. h x y (inl refl) (inr i) (all_in (R x) xs y s.0 i)), sorted_weaker R S xs (λ y z i j r. h y z (inr i) (inr j) r) s.1)

pub sorted_append : {X : Type 0} (R : X → X → Type 0) (xs ys : List X) → Sorted R xs → Sorted R ys → ((x y : X) → In x xs → In y ys → R x y) → Sorted R (xs ++ ys)
sorted_append R [] ys s t h = t
sorted_append R (x ∷ xs) ys s t h =
    (All-append (R x) xs ys s.0 (all_of (R x) ys (λ y j. h x y (inl refl) j)), sorted_append R xs ys s.1 t (λ a b i j. h a b (inr i) j))

pub sorted_kept : {X : Type 0} (R : X → X → Type 0) (t : X → Bool) (xs : List X) → Sorted R xs → Sorted R (filter t xs)
sorted_kept R t [] s = tt
sorted_kept {X} R t (x ∷ xs) s = go (t x) (sorted_kept R t xs s.1)
  where
    go : (b : Bool) → Sorted R (filter t xs) → Sorted R (cond b (x ∷ filter t xs) (filter t xs))
    go true k = (all_of (R x) (filter t xs) (λ y i. all_in (R x) xs y s.0 (kept_in t xs y i).0), k)
    go false k = k

pub sorted_map : {X Y : Type 0} (R : X → X → Type 0) (S : Y → Y → Type 0) (g : X → Y) → ((x y : X) → R x y → S (g x) (g y)) → (xs : List X) → Sorted R xs → Sorted S (map g xs)
sorted_map R S g h [] s = tt
sorted_map R S g h (x ∷ xs) s =
    (all_of (S (g x)) (map g xs) (λ y i. let r = in_mapped g xs y i in subst (S (g x)) (sym r.2) (h x r.0 (all_in (R x) xs r.0 s.0 r.1))), sorted_map R S g h xs s.1)

-- lists made of each element of a list in order, joined, where those of an earlier one come before those of a later one
pub sorted_join : {X Y : Type 0} (R : X → X → Type 0) (S : Y → Y → Type 0) (g : X → List Y) (xs : List X) → Sorted R xs → ((x : X) → In x xs → Sorted S (g x)) →
    ((x z : X) → In x xs → In z xs → R x z → (y w : Y) → In y (g x) → In w (g z) → S y w) → Sorted S (join_all (map g xs))
sorted_join R S g [] s h k = tt
sorted_join R S g (x ∷ xs) s h k =
    sorted_append S (g x) (join_all (map g xs)) (h x (inl refl)) (sorted_join R S g xs s.1 (λ z i. h z (inr i)) (λ a b i j r y w m n. k a b (inr i) (inr j) r y w m n))
    (λ y w i j.
    let q = in_joined (map g xs) w j in
    let z = in_mapped g xs q.0 q.1 in
    k x z.0 (inl refl) (inr z.1) (all_in (R x) xs z.0 s.0 z.1) y w i (subst (λ l. In w l) z.2 q.2))

pub sorted_counting : (a n : ℕ) → Sorted ◌<◌ (range_with_len a n)
sorted_counting a zero = tt
sorted_counting a (suc n) = (all_of (λ y. a < y) (range_with_len (a + 1) n) (λ y i. omega (arith, counting_from (a + 1) n y i)), sorted_counting (a + 1) n)

pub distinct_counting : (a n : ℕ) → Distinct (range_with_len a n)
distinct_counting a n = sorted_distinct ◌<◌ (λ x l. omega arith) (range_with_len a n) (sorted_counting a n)

pub distinct_kept : {X : Type 0} (t : X → Bool) (xs : List X) → Distinct xs → Distinct (filter t xs)
distinct_kept t [] d = tt
distinct_kept {X} t (x ∷ xs) d = go (t x) (distinct_kept t xs d.1)
  where
    go : (b : Bool) → Distinct (filter t xs) → Distinct (cond b (x ∷ filter t xs) (filter t xs))
    go true e = ((λ i. d.0 (kept_in t xs x i).0), e)
    go false e = e

-- ---- how many different sites there can be

-- how many numbers below n pass a test
unfoldable pub count : ℕ → (ℕ → Bool) → ℕ
count zero t = 0
count (suc n) t = cond (t 0) 1 0 + count n (λ s. t (suc s))

pub count_same : (n : ℕ) (t u : ℕ → Bool) → ((s : ℕ) → t s ≡ u s) → count n t ≡ count n u
unfolding count
count_same zero t u e = refl
count_same (suc n) t u e = let a = count_same n (λ s. t (suc s)) (λ s. u (suc s)) (λ s. e (suc s)) in let b = e 0 in cc

count_all : (n : ℕ) → count n (λ s. true) ≡ n
unfolding count
count_all zero = refl
count_all (suc n) = omega (arith, count_all n)

without : (ℕ → Bool) → ℕ → ℕ → Bool
without t r s = t s && not (eqb s r)

without_same : (t : ℕ → Bool) (r : ℕ) → without t r r ≡ false
unfolding without
without_same t r = rw (eq-eqb r r refl) (elim (t r) as (λ b. (b && false) ≡ false) [ true ↦ refl | false ↦ refl ])

without_other : (t : ℕ → Bool) (r s : ℕ) → (s ≡ r → ⊥) → without t r s ≡ t s
unfolding without
without_other t r s h = rw (ne_eqb s r h) (elim (t s) as (λ b. (b && true) ≡ b) [ true ↦ refl | false ↦ refl ])

count_without : (n r : ℕ) (t : ℕ → Bool) → r < n → t r ≡ true → count n t ≡ suc (count n (without t r))
unfolding count
count_without zero r t h k = absurd (omega arith)
count_without (suc n) zero t h k =
    let a : count n (λ s. without t 0 (suc s)) ≡ count n (λ s. t (suc s)) = count_same n (λ s. without t 0 (suc s)) (λ s. t (suc s)) (λ s. without_other t 0 (suc s) (λ e. omega arith)) in
    rw (k, without_same t 0) (omega arith)
count_without (suc n) (suc r) t h k =
    let a : count n (λ s. t (suc s)) ≡ suc (count n (without (λ s. t (suc s)) r)) = count_without n r (λ s. t (suc s)) (omega arith) k in
    let b : count n (λ s. without t (suc r) (suc s)) ≡ count n (without (λ s. t (suc s)) r) = count_same n (λ s. without t (suc r) (suc s)) (without (λ s. t (suc s)) r) next in
    rw (without_other t (suc r) 0 (λ e. omega arith)) (omega arith)
  where
    next : (s : ℕ) → without t (suc r) (suc s) ≡ without (λ s. t (suc s)) r s
    next s = ⊎_elim
        (λ e. let d : suc s ≡ suc r = omega arith in subst (λ (x : ℕ). without t (suc r) x ≡ false) (sym d) (without_same t (suc r)) ∙ sym (subst (λ (x : ℕ). without (λ s. t (suc s)) r x ≡ false) (sym e) (without_same (λ s. t (suc s)) r)))
        (λ e. without_other t (suc r) (suc s) (λ d. e (omega arith)) ∙ sym (without_other (λ s. t (suc s)) r s e))
        (cases_eq s r)

-- different numbers below n that pass a test are no more than there are
pub distinct_fit : (n : ℕ) (xs : List ℕ) (t : ℕ → Bool) → Distinct xs → ((s : ℕ) → In s xs → (s < n) × (t s ≡ true)) → length xs ≤ count n t
distinct_fit n [] t d h = omega arith
distinct_fit n (x ∷ xs) t d h =
    let here = h x (inl refl) in
    let apart : (s : ℕ) → In s xs → s ≡ x → ⊥ = λ s i e. d.0 (subst (λ (y : ℕ). In y xs) e i) in
    let rest : length xs ≤ count n (without t x) = distinct_fit n xs (without t x) d.1 (λ s i. ((h s (inr i)).0, without_other t x s (apart s i) ∙ (h s (inr i)).1)) in
    omega (arith, count_without n x t here.0 here.1)

-- and different numbers below n are at most n
pub distinct_few : (n : ℕ) (xs : List ℕ) → Distinct xs → ((s : ℕ) → In s xs → s < n) → length xs ≤ n
distinct_few n xs d h = omega (arith, distinct_fit n xs (λ s. true) d (λ s i. (h s i, refl)), count_all n)

-- different numbers below n, beside others of them
pub distinct_beside : (n : ℕ) (xs ys : List ℕ) → Distinct xs → Distinct ys → ((s : ℕ) → In s xs → (s < n) × (In s ys → ⊥)) → ((s : ℕ) → In s ys → s < n) → length xs + length ys ≤ n
distinct_beside n xs ys d e a b =
    let l : length (xs ++ ys) ≤ n = distinct_few n (xs ++ ys) (distinct_append xs ys d e (λ s i j. (a s i).1 j)) (λ s i. ⊎_elim (λ j. (a s j).0) (λ j. b s j) (in_append xs ys s i)) in
    omega (arith, length-append xs ys)

-- ---- what a test keeps

pub kept_fewer : {X : Type 0} (s t : X → Bool) → ((x : X) → s x ≡ true → t x ≡ true) → (xs : List X) → length (filter s xs) ≤ length (filter t xs)
kept_fewer s t h [] = omega arith
kept_fewer {X} s t h (x ∷ xs) = go (s x) (t x) (h x) (kept_fewer s t h xs)
  where
    go : (b c : Bool) → (b ≡ true → c ≡ true) → length (filter s xs) ≤ length (filter t xs) →
        length (cond b (x ∷ filter s xs) (filter s xs)) ≤ length (cond c (x ∷ filter t xs) (filter t xs))
    go true true e l = omega arith
    go true false e l = absurd (both_ways false refl (e refl))
    go false true e l = omega arith
    go false false e l = l

pub kept_map : {X Y : Type 0} (g : X → Y) (t : Y → Bool) (xs : List X) → filter t (map g xs) ≡ map g (filter (λ x. t (g x)) xs)
kept_map g t [] = refl
kept_map {X} {Y} g t (x ∷ xs) = go (t (g x)) (kept_map g t xs)
  where
    go : (b : Bool) → filter t (map g xs) ≡ map g (filter (λ x. t (g x)) xs) →
        cond b (g x ∷ filter t (map g xs)) (filter t (map g xs)) ≡ map g (cond b (x ∷ filter (λ x. t (g x)) xs) (filter (λ x. t (g x)) xs))
    go true e = ap (λ (l : List Y). g x ∷ l) e
    go false e = e

pub kept_none : {X : Type 0} (t : X → Bool) (xs : List X) → ((x : X) → In x xs → t x ≡ false) → filter t xs ≡ []
kept_none t [] h = refl
kept_none t (x ∷ xs) h = cond-false (t x) (x ∷ filter t xs) (filter t xs) (h x (inl refl)) ∙ kept_none t xs (λ y i. h y (inr i))

-- ---- paths

pub same_path_refl : (p : List ℕ) → same_path p p ≡ true
same_path_refl [] = refl
same_path_refl (x ∷ xs) = rw (eq-eqb x x refl) (same_path_refl xs)

pub same_path_true : (p q : List ℕ) → same_path p q ≡ true → p ≡ q
same_path_true [] [] h = refl
same_path_true [] (y ∷ ys) h = absurd (both_ways false refl h)
same_path_true (x ∷ xs) [] h = absurd (both_ways false refl h)
same_path_true (x ∷ xs) (y ∷ ys) h =
    let k = and_parts (eqb x y) (same_path xs ys) h in
    let a : x ≡ y = eqb-true x y k.0 in
    let b : xs ≡ ys = same_path_true xs ys k.1 in cc

pub same_path_false : (p q : List ℕ) → (p ≡ q → ⊥) → same_path p q ≡ false
same_path_false p q d = ⊎_elim (λ e. absurd (d (same_path_true p q e))) (λ e. e) (cases_Bool (same_path p q))

pub front_push : (p : List ℕ) (s : ℕ) → front (p ++ s ∷ []) ≡ p
front_push [] s = refl
front_push (x ∷ []) s = refl
front_push (x ∷ y ∷ r) s = ap (λ (l : List ℕ). x ∷ l) (front_push (y ∷ r) s)

pub final_push : (p : List ℕ) (s : ℕ) → final (p ++ s ∷ []) ≡ s
final_push [] s = refl
final_push (x ∷ []) s = refl
final_push (x ∷ y ∷ r) s = final_push (y ∷ r) s

pub front_final : (x : ℕ) (r : List ℕ) → x ∷ r ≡ front (x ∷ r) ++ final (x ∷ r) ∷ []
front_final x [] = refl
front_final x (y ∷ r) = ap (λ (l : List ℕ). x ∷ l) (front_final y r)

pub front_length : (q : List ℕ) (k : ℕ) → length q ≡ suc k → length (front q) ≡ k
front_length [] k e = omega arith
front_length (x ∷ []) k e = omega arith
front_length (x ∷ y ∷ r) zero e = absurd (omega arith)
front_length (x ∷ y ∷ r) (suc k) e = ap suc (front_length (y ∷ r) k (omega arith))

pub final_all : (P : ℕ → Type 0) (x : ℕ) (r : List ℕ) → AllByRecursion P (x ∷ r) → P (final (x ∷ r))
final_all P x [] a = a.0
final_all P x (y ∷ r) a = final_all P y r a.1
