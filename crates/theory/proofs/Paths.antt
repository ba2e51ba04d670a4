-- The paths of a network, and those along which a site expects a bit.
use Rattle.std.proofs.Common.{◌≡◌, ℕ, zero, suc, ◌+◌, ◌-◌, ◌<◌, ◌≤◌, true, not, ◌&&◌, List, [], ◌∷◌, ◌++◌, map, length, filter, sym, refl, ap, ◌∙◌, subst, inl, inr, ⊎_elim, append_assoc, append-nil, arith, length-append}
use Rattle.std.specs.List.{AllByRecursion, range_with_len}
use Rattle.std.proofs.lemmas.Bool.{cases_eq, and_from, and_parts, not_from_false}
use Rattle.std.proofs.ByRecursion.{All-push}
use Rattle.sites.specs.Lists.{In, Distinct, has, front, final}
use Rattle.sites.proofs.Lists.{all_in, all_left, in_left, in_right, in_append, in_map, in_mapped, in_join_all, in_joined, in_kept, kept_in, in_counting, counting_below, not_has, lacks, distinct_left, distinct_apart, distinct_push, distinct_few, Sorted, sorted_distinct, sorted_weaker, sorted_append, sorted_kept, sorted_map, sorted_join, sorted_counting, front_push}
use Rattle.theory.specs.Network.{Network, Linked, Way}
use Rattle.theory.specs.Flooding.{goes_on, longer, paths, expected, expected_up_to}
use Rattle.theory.specs.Expected.{JoinedPath, Expects, PathBefore, NotedBefore}

-- ---- parts of a path

pub linked_left : (N : Network) (xs ys : List ℕ) → Linked N (xs ++ ys) → Linked N xs
linked_left N [] ys l = tt
linked_left N (x ∷ []) ys l = tt
linked_left N (x ∷ y ∷ r) ys l = (l.0, linked_left N (y ∷ r) ys l.1)

-- the edge behind a part
pub linked_at : (N : Network) (x : ℕ) (xs : List ℕ) (s : ℕ) (ys : List ℕ) → Linked N ((x ∷ xs) ++ s ∷ ys) → N.joined (final (x ∷ xs)) s ≡ true
linked_at N x [] s ys l = l.0
linked_at N x (y ∷ r) s ys l = linked_at N y r s ys l.1

linked_push : (N : Network) (x : ℕ) (xs : List ℕ) (s : ℕ) → Linked N (x ∷ xs) → N.joined (final (x ∷ xs)) s ≡ true → Linked N ((x ∷ xs) ++ s ∷ [])
linked_push N x [] s l j = (j, tt)
linked_push N x (y ∷ r) s l j = (l.0, linked_push N y r s l.1 j)

-- where a path goes on, it stays one
goes_linked : (N : Network) (p : List ℕ) (s : ℕ) → goes_on N p s ≡ true → Linked N p → Linked N (p ++ s ∷ [])
goes_linked N [] s e l = tt
goes_linked N (x ∷ xs) s e l = linked_push N x xs s l (and_parts (N.joined (final (x ∷ xs)) s) (not (has s (x ∷ xs))) e).0

pub goes_new : (N : Network) (p : List ℕ) (s : ℕ) → goes_on N p s ≡ true → In s p → ⊥
goes_new N [] s e i = i
goes_new N (x ∷ xs) s e i = lacks s (x ∷ xs) (and_parts (N.joined (final (x ∷ xs)) s) (not (has s (x ∷ xs))) e).1 i

-- ---- all paths are joined paths

pub in_longer : (N : Network) (p q : List ℕ) → In q (longer N p) → (s : ℕ) × (s < N.n) × (goes_on N p s ≡ true) × (q ≡ p ++ s ∷ [])
unfolding longer
in_longer N p q i =
    let m = in_mapped (λ (s : ℕ). p ++ s ∷ []) (filter (goes_on N p) (range_with_len 0 N.n)) q i in
    let k = kept_in (goes_on N p) (range_with_len 0 N.n) m.0 m.1 in
    (m.0, omega (arith, counting_below 0 N.n m.0 k.0), k.1, m.2)

pub paths_are : (N : Network) (k : ℕ) (q : List ℕ) → In q (paths N k) → JoinedPath N k q
unfolding paths
paths_are N zero q (inl e) = subst (JoinedPath N 0) (sym e) (record { long = refl; sites = tt; distinct = tt; linked = tt })
paths_are N zero q (inr i) = absurd i
paths_are N (suc k) q i =
    let r = in_joined (map (longer N) (paths N k)) q i in
    let o = in_mapped (longer N) (paths N k) r.0 r.1 in
    let p : List ℕ = o.0 in
    let w = in_longer N p q (subst (λ l. In q l) o.2 r.2) in
    let j : JoinedPath N k p = paths_are N k p o.1 in
    subst (JoinedPath N (suc k)) (sym w.3) (record {
      long = length-append p (w.0 ∷ []) ∙ omega (arith, j.long);
      sites = All-push (λ s. s < N.n) p w.0 j.sites w.1;
      distinct = distinct_push p w.0 j.distinct (goes_new N p w.0 w.2);
      linked = goes_linked N p w.0 w.2 j.linked;
    })

-- ---- and all joined paths are among them

path_more : (N : Network) (k s : ℕ) (p : List ℕ) → In p (paths N k) → s < N.n → goes_on N p s ≡ true → In (p ++ s ∷ []) (paths N (suc k))
unfolding paths longer
path_more N k s p i h g =
    in_join_all (map (longer N) (paths N k)) (longer N p) (p ++ s ∷ []) (in_map (longer N) (paths N k) p i)
    (in_map (λ x. p ++ x ∷ []) (filter (goes_on N p) (range_with_len 0 N.n)) s (in_kept (goes_on N p) (range_with_len 0 N.n) s (in_counting 0 N.n s (omega arith) (omega arith)) g))

path_none : (N : Network) → In [] (paths N 0)
unfolding paths
path_none N = inl refl

walk : (N : Network) (rest : List ℕ) (x : ℕ) (xs : List ℕ) (k : ℕ) → In (x ∷ xs) (paths N k) → Linked N ((x ∷ xs) ++ rest) → Distinct ((x ∷ xs) ++ rest) →
    AllByRecursion (λ s. s < N.n) rest → In ((x ∷ xs) ++ rest) (paths N (k + length rest))
walk N [] x xs k i l d s =
    let e : k ≡ k + length {A = ℕ} [] = omega arith in
    subst (λ (q : List ℕ). In q (paths N (k + length {A = ℕ} []))) (sym (append-nil (x ∷ xs))) (subst (λ (j : ℕ). In (x ∷ xs) (paths N j)) e i)
walk N (w ∷ rest) x xs k i l d s =
    let apart : In w (x ∷ xs) → ⊥ = λ j. distinct_apart (x ∷ xs) (w ∷ rest) w d j (inl refl) in
    let same : ((x ∷ xs) ++ w ∷ []) ++ rest ≡ (x ∷ xs) ++ w ∷ rest = append_assoc (x ∷ xs) (w ∷ []) rest in
    let on : goes_on N (x ∷ xs) w ≡ true = and_from (N.joined (final (x ∷ xs)) w) (not (has w (x ∷ xs))) (linked_at N x xs w rest l) (not_from_false (has w (x ∷ xs)) (not_has w (x ∷ xs) apart)) in
    let more = walk N rest x (xs ++ w ∷ []) (suc k) (path_more N k w (x ∷ xs) i s.0 on) (subst (Linked N) (sym same) l) (subst Distinct (sym same) d) s.1 in
    let e : suc k + length rest ≡ k + length (w ∷ rest) = omega arith in
    subst (λ (j : ℕ). In ((x ∷ xs) ++ w ∷ rest) (paths N j)) e (subst (λ (q : List ℕ). In q (paths N (suc k + length rest))) same more)

pub are_paths : (N : Network) (k : ℕ) (q : List ℕ) → JoinedPath N k q → In q (paths N k)
are_paths N k [] j = subst (λ (i : ℕ). In [] (paths N i)) j.long (path_none N)
are_paths N k (x ∷ xs) j =
    let e : 1 + length xs ≡ k = omega (arith, j.long) in
    subst (λ (i : ℕ). In (x ∷ xs) (paths N i)) e (walk N xs x [] 1 (path_more N 0 x [] (path_none N) j.sites.0 refl) j.linked j.distinct j.sites.1)

-- ---- expected paths

pub expected_are : (N : Network) (v k : ℕ) (q : List ℕ) → In q (expected N v k) → Expects N v k q
unfolding expected
expected_are N v zero q i = absurd i
expected_are N v (suc k) q i =
    let r = kept_in (λ p. N.joined (final p) v && not (has v p)) (paths N (suc k)) q i in
    let e = and_parts (N.joined (final q) v) (not (has v q)) r.1 in
    record { some = omega arith; path = paths_are N (suc k) q r.0; last = e.0; lacks = lacks v q e.1 }

pub are_expected : (N : Network) (v k : ℕ) (q : List ℕ) → Expects N v k q → In q (expected N v k)
unfolding expected
are_expected N v zero q x = absurd (omega (arith, x.some))
are_expected N v (suc k) q x =
    in_kept (λ p. N.joined (final p) v && not (has v p)) (paths N (suc k)) q (are_paths N (suc k) q x.path)
    (and_from (N.joined (final q) v) (not (has v q)) x.last (not_from_false (has v q) (not_has v q x.lacks)))

-- an expected path is heard within the phase
pub expected_short : (N : Network) (v k : ℕ) (q : List ℕ) → v < N.n → In q (expected N v k) → k ≤ N.n - 1
expected_short N v k q h i =
    let x = expected_are N v k q i in
    let few : length (v ∷ q) ≤ N.n = distinct_few N.n (v ∷ q) (x.lacks, x.path.distinct) (λ s j. ⊎_elim (λ (e : s ≡ v). omega arith) (λ m. all_in (λ s. s < N.n) q s x.path.sites m) j) in
    omega (arith, x.path.long)

-- ---- a way without its end is expected there

pub way_front : (N : Network) (F u v : ℕ) (q : List ℕ) (t : Way N F u v q) → front q ≡ u ∷ t.inner
way_front N F u v q t = ap front t.is ∙ front_push (u ∷ t.inner) v

pub way_expected : (N : Network) (F u v : ℕ) (q : List ℕ) (t : Way N F u v q) → In (u ∷ t.inner) (expected N v (suc (length t.inner)))
way_expected N F u v q t =
    let z : List ℕ = t.inner in
    let sites : AllByRecursion (λ x. x < N.n) ((u ∷ z) ++ v ∷ []) = subst (AllByRecursion (λ x. x < N.n)) t.is t.sites in
    let d : Distinct ((u ∷ z) ++ v ∷ []) = subst Distinct t.is t.distinct in
    let l : Linked N ((u ∷ z) ++ v ∷ []) = subst (Linked N) t.is t.linked in
    are_expected N v (suc (length z)) (u ∷ z) (record {
      some = omega arith;
      path = record {
        long = refl;
        sites = all_left (λ x. x < N.n) (u ∷ z) (v ∷ []) sites;
        distinct = distinct_left (u ∷ z) (v ∷ []) d;
        linked = linked_left N (u ∷ z) (v ∷ []) l;
      };
      last = linked_at N u z v [] l;
      lacks = λ j. distinct_apart (u ∷ z) (v ∷ []) v d j (inl refl);
    })

-- a way is heard before its phase is over
pub way_short : (N : Network) (F u v : ℕ) (q : List ℕ) (t : Way N F u v q) → v < N.n → suc (length t.inner) ≤ N.n - 1
way_short N F u v q t h = expected_short N v (suc (length t.inner)) (u ∷ t.inner) h (way_expected N F u v q t)

-- ---- ascending

before_never : (p : List ℕ) → PathBefore p p → ⊥
before_never [] b = b
before_never (x ∷ xs) (inl l) = omega arith
before_never (x ∷ xs) (inr r) = before_never xs r.1

before_push : (p q : List ℕ) (s t : ℕ) → length p ≡ length q → PathBefore p q → PathBefore (p ++ s ∷ []) (q ++ t ∷ [])
before_push [] [] s t e b = absurd b
before_push [] (y ∷ ys) s t e b = absurd (omega arith)
before_push (x ∷ xs) [] s t e b = absurd b
before_push (x ∷ xs) (y ∷ ys) s t e (inl l) = inl l
before_push (x ∷ xs) (y ∷ ys) s t e (inr r) = inr (r.0, before_push xs ys s t (omega arith) r.1)

before_last : (p : List ℕ) (s t : ℕ) → s < t → PathBefore (p ++ s ∷ []) (p ++ t ∷ [])
before_last [] s t l = inl l
before_last (x ∷ xs) s t l = inr (refl, before_last xs s t l)

sorted_longer : (N : Network) (p : List ℕ) → Sorted PathBefore (longer N p)
unfolding longer
sorted_longer N p = sorted_map ◌<◌ PathBefore (λ s. p ++ s ∷ []) (λ s t l. before_last p s t l) (filter (goes_on N p) (range_with_len 0 N.n))
    (sorted_kept ◌<◌ (goes_on N p) (range_with_len 0 N.n) (sorted_counting 0 N.n))

sorted_paths : (N : Network) (k : ℕ) → Sorted PathBefore (paths N k)
unfolding paths
sorted_paths N zero = (tt, tt)
sorted_paths N (suc k) = sorted_join PathBefore PathBefore (longer N) (paths N k) (sorted_paths N k) (λ p i. sorted_longer N p)
    (λ p q i j r y z m n.
    let a = in_longer N p y m in
    let b = in_longer N q z n in
    let e : length p ≡ length q = (paths_are N k p i).long ∙ sym (paths_are N k q j).long in
    subst (λ l. PathBefore l z) (sym a.3) (subst (PathBefore (p ++ a.0 ∷ [])) (sym b.3) (before_push p q a.0 b.0 e r)))

pub sorted_expected : (N : Network) (v k : ℕ) → Sorted PathBefore (expected N v k)
unfolding expected
sorted_expected N v zero = tt
sorted_expected N v (suc k) = sorted_kept PathBefore (λ p. N.joined (final p) v && not (has v p)) (paths N (suc k)) (sorted_paths N (suc k))

pub distinct_expected : (N : Network) (v k : ℕ) → Distinct (expected N v k)
distinct_expected N v k = sorted_distinct PathBefore before_never (expected N v k) (sorted_expected N v k)

-- ---- all of them, by length

pub in_up_to : (N : Network) (v k m : ℕ) (q : List ℕ) → k ≤ m → In q (expected N v k) → In q (expected_up_to N v m)
unfolding expected_up_to
in_up_to N v k zero q l i = let x = expected_are N v k q i in absurd (omega (arith, x.some))
in_up_to N v k (suc m) q l i = ⊎_elim
    (λ (e : k ≡ suc m). in_right (expected_up_to N v m) (expected N v (suc m)) q (subst (λ (x : ℕ). In q (expected N v x)) e i))
    (λ d. in_left (expected_up_to N v m) (expected N v (suc m)) q (in_up_to N v k m q (omega arith) i))
    (cases_eq k (suc m))

pub up_to_in : (N : Network) (v m : ℕ) (q : List ℕ) → In q (expected_up_to N v m) → (k : ℕ) × (k ≤ m) × In q (expected N v k)
unfolding expected_up_to
up_to_in N v zero q i = absurd i
up_to_in N v (suc m) q i = ⊎_elim
    (λ j. let r = up_to_in N v m q j in (r.0, omega (arith, r.1), r.2))
    (λ j. (suc m, omega arith, j))
    (in_append (expected_up_to N v m) (expected N v (suc m)) q i)

pub sorted_up_to : (N : Network) (v k : ℕ) → Sorted NotedBefore (expected_up_to N v k)
unfolding expected_up_to
sorted_up_to N v zero = tt
sorted_up_to N v (suc k) = sorted_append NotedBefore (expected_up_to N v k) (expected N v (suc k)) (sorted_up_to N v k)
    (sorted_weaker PathBefore NotedBefore (expected N v (suc k)) (λ p q i j r. inr ((expected_are N v (suc k) p i).path.long ∙ sym (expected_are N v (suc k) q j).path.long, r)) (sorted_expected N v (suc k)))
    (λ p q i j. let a = up_to_in N v k p i in inl (omega (arith, a.1, (expected_are N v a.0 p a.2).path.long, (expected_are N v (suc k) q j).path.long)))

pub distinct_up_to : (N : Network) (v k : ℕ) → Distinct (expected_up_to N v k)
distinct_up_to N v k = sorted_distinct NotedBefore (λ p b. ⊎_elim (λ l. omega arith) (λ r. before_never p r.1) b) (expected_up_to N v k) (sorted_up_to N v k)
