-- What is walked for a site is what it expects.
use Rattle.std.proofs.Common.{◌≡◌, ℕ, zero, suc, ◌+◌, ◌-◌, ◌*◌, ◌/◌, ◌^◌, ◌<◌, ◌≤◌, Bool, true, false, cond, not, ◌&&◌, ◌||◌, eqb, ltb, List, [], ◌∷◌, ◌++◌, map, length, filter, sym, refl, ap, ◌∙◌, ⊎_elim, append_assoc, append-nil, arith, length-append}
use Rattle.std.proofs.lemmas.Bool.{cases_eq, cases_lt, and_parts, and_from, and_left, and_right, eq-eqb, ne_eqb, lt-ltb, le-ltb, not_from_false, not_from_true, eqb-true, eqb-false}
use Rattle.sites.specs.Sets.{in_set, others}
use Rattle.sites.specs.Lists.{has, front, final, join_all}
use Rattle.sites.proofs.Lists.{front_push, final_push}
use Rattle.std.proofs.lemmas.Nat.{pow_pos}
use Rattle.sites.proofs.Sets.{in_set_above}
use Rattle.theory.specs.Network.{Network}
use Rattle.theory.specs.Flooding.{goes_on, longer, paths, expected}
use Rattle.tables.specs.Wirings.{wired}
use Rattle.tables.specs.Entries.{path_word, entry_of}
use Rattle.tables.specs.Steps.{can_go, gone_on, walks, root}
use Rattle.tables.specs.declared.expected_path.ExpectedPath.{ExpectedPath}
use Rattle.tables.specs.declared.step.Step.{Step}
use Rattle.tables.proofs.Masks.{minus_same, minus_other, full_has}
use Rattle.tables.proofs.Joins.{join_same, join_short, join_void, join_counted, join_map_kept, map_cond}
use Rattle.tables.proofs.Words.{unit_at, word_push, word_root}

-- ---- tests

or_true : (x y : Bool) → y ≡ true → (x || y) ≡ true
or_true true y d = refl
or_true false y d = d

or_false : (x y : Bool) → y ≡ false → (x || y) ≡ x
or_false true y d = refl
or_false false y d = d

and_true : (x y : Bool) → y ≡ true → (x && y) ≡ x
and_true true y d = d
and_true false y d = refl

has_push : (x s : ℕ) (p : List ℕ) → has x (p ++ s ∷ []) ≡ (has x p || eqb x s)
has_push x s [] = none (eqb x s)
  where
    none : (b : Bool) → (b || false) ≡ b
    none true = refl
    none false = refl
has_push x s (y ∷ ys) = ap (λ b. eqb x y || b) (has_push x s ys) ∙ or_assoc (eqb x y) (has x ys) (eqb x s)
  where
    or_assoc : (a b c : Bool) → (a || (b || c)) ≡ ((a || b) || c)
    or_assoc true b c = refl
    or_assoc false b c = refl

pick : {X : Type 0} (a h e : Bool) (x y : List X) → (e ≡ true → y ≡ []) → ((a && not h) ≡ true → e ≡ false → x ≡ y) →
    cond (a && (true && (not h && not e))) x [] ≡ cond (a && not h) y []
pick true true e x y void same = refl
pick true false true x y void same = sym (void refl)
pick true false false x y void same = same refl refl
pick false h e x y void same = refl

-- ---- the paths that go on from a path

join_join : {X Y : Type 0} (F : X → List Y) (xss : List (List X)) → join_all (map F (join_all xss)) ≡ join_all (map (λ xs. join_all (map F xs)) xss)
join_join F [] = refl
join_join F (xs ∷ xss) = joins xs ∙ ap (λ x. join_all (map F xs) ++ x) (join_join F xss)
  where
    joins : (ys : List _) → join_all (map F (ys ++ join_all xss)) ≡ join_all (map F ys) ++ join_all (map F (join_all xss))
    joins [] = refl
    joins (y ∷ ys) = ap (λ x. F y ++ x) (joins ys) ∙ sym (append_assoc (F y) (join_all (map F ys)) (join_all (map F (join_all xss))))

join_units : {X : Type 0} (xs : List X) → join_all (map (λ x. x ∷ []) xs) ≡ xs
join_units [] = refl
join_units (x ∷ xs) = ap (λ y. x ∷ y) (join_units xs)

map_join : {X Y Z : Type 0} (G : X → List Y) (H : Y → List Z) (xs : List X) → map (λ ys. join_all (map H ys)) (map G xs) ≡ map (λ x. join_all (map H (G x))) xs
map_join G H [] = refl
map_join G H (x ∷ xs) = ap (λ y. join_all (map H (G x)) ∷ y) (map_join G H xs)

map_alike : {X Y : Type 0} (F G : X → Y) → ((x : X) → F x ≡ G x) → (xs : List X) → map F xs ≡ map G xs
map_alike F G h [] = refl
map_alike F G h (x ∷ xs) = let a = h x in let b = map_alike F G h xs in cc

module _ (N : Network) where
  abbrev after : List ℕ → ℕ → List (List ℕ)
  after p zero = p ∷ []
  after p (suc k) = join_all (map (λ q. after q k) (longer N p))

  after_last : (k : ℕ) (p : List ℕ) → after p (suc k) ≡ join_all (map (longer N) (after p k))
  after_last zero p = join_units (longer N p) ∙ sym (append-nil (longer N p))
  after_last (suc k) p =
      ap join_all (map_alike (λ q. after q (suc k)) (λ q. join_all (map (longer N) (after q k))) (after_last k) (longer N p))
      ∙ ap join_all (sym (map_join (λ q. after q k) (longer N) (longer N p)))
      ∙ sym (join_join (longer N) (map (λ q. after q k) (longer N p)))

  paths_after : (k : ℕ) → paths N k ≡ after [] k
  unfolding paths
  paths_after zero = refl
  paths_after (suc k) = ap (λ ps. join_all (map (longer N) ps)) (paths_after k) ∙ sym (after_last k [])

  -- whether an edge leads on to a site: from the empty path to any
  abbrev opens : List ℕ → ℕ → Bool
  opens [] s = true
  opens (x ∷ xs) s = N.joined (final (x ∷ xs)) s

  goes_opens : (p : List ℕ) (s : ℕ) → goes_on N p s ≡ (opens p s && not (has s p))
  goes_opens [] s = refl
  goes_opens (x ∷ xs) s = refl

  opens_push : (p : List ℕ) (s t : ℕ) → opens (p ++ s ∷ []) t ≡ N.joined s t
  opens_push [] s t = refl
  opens_push (x ∷ xs) s t = ap (λ z. N.joined z t) (final_push (x ∷ xs) s)

-- ---- what is listed

abbrev entry : ℕ → ℕ → ℕ → ExpectedPath
entry w f l = record { word = w; front = f; last = l }

module _ (n : ℕ) (near : List ℕ) (v : ℕ) (few : n ≤ 6) (below : v < n) where
  abbrev N : Network
  N = wired n near

  abbrev ok : List ℕ → Bool
  ok q = N.joined (final q) v && not (has v q)

  abbrev mine : List ℕ → ℕ → List ExpectedPath
  mine p k = map entry_of (filter ok (after N p k))

  record Stands (p : List ℕ) (st : Step) : Type 0 where
    near_is : (s : ℕ) → s < 6 → in_set st.near.bits s ≡ opens N p s
    free_is : (s : ℕ) → s < 6 → in_set st.free.bits s ≡ (ltb s n && (not (has s p) && not (eqb s v)))
    path_is : st.path ≡ entry_of p
    unit_is : st.unit ≡ unit_at (length p)

  stands_on : (p : List ℕ) (st : Step) (s : ℕ) → Stands p st → length p ≤ 4 → s < 6 → in_set st.free.bits s ≡ true → Stands (p ++ s ∷ []) (gone_on near st s)
  stands_on p st s h short lt b = record {
    near_is = λ t l. sym (opens_push N p s t);
    free_is = λ t l. ⊎_elim (here t) (there t l) (cases_eq t s);
    path_is =
        let w : st.path.word ≡ path_word p = ap (λ (x : ExpectedPath). x.word) h.path_is in
        let a : st.path.word + 2 ^ 25 + s * st.unit ≡ path_word (p ++ s ∷ []) =
        ap (λ x. x + 2 ^ 25 + s * st.unit) w ∙ ap (λ x. path_word p + 2 ^ 25 + s * x) h.unit_is ∙ sym (word_push p s short) in
        let f : st.path.word ≡ path_word (front (p ++ s ∷ [])) = w ∙ sym (ap path_word (front_push p s)) in
        ap (λ x. entry x st.path.word s) a ∙ ap (λ x. entry (path_word (p ++ s ∷ [])) x s) f
        ∙ sym (ap (entry (path_word (p ++ s ∷ [])) (path_word (front (p ++ s ∷ [])))) (final_push p s));
    unit_is =
        let e : length (p ++ s ∷ []) ≡ suc (length p) = length-append p (s ∷ []) ∙ omega arith in
        ap (λ x. x / 8) h.unit_is ∙ sym (ap unit_at e);
  }
    where
      here : (t : ℕ) → t ≡ s → in_set (st.free.bits - 2 ^ s) t ≡ (ltb t n && (not (has t (p ++ s ∷ [])) && not (eqb t v)))
      here t e =
          ap (λ x. in_set (st.free.bits - 2 ^ s) x) e ∙ minus_same st.free.bits s b
          ∙ sym (and_right (ltb t n) (not (has t (p ++ s ∷ [])) && not (eqb t v))
          (and_left (not (has t (p ++ s ∷ []))) (not (eqb t v)) (not_from_true (has t (p ++ s ∷ [])) (has_push t s p ∙ or_true (has t p) (eqb t s) (eq-eqb t s e)))))

      there : (t : ℕ) → t < 6 → (t ≡ s → ⊥) → in_set (st.free.bits - 2 ^ s) t ≡ (ltb t n && (not (has t (p ++ s ∷ [])) && not (eqb t v)))
      there t l ne =
          minus_other st.free.bits s t b ne ∙ h.free_is t l
          ∙ ap (λ x. ltb t n && (not x && not (eqb t v))) (sym (or_false (has t p) (eqb t s) (ne_eqb t s ne)) ∙ sym (has_push t s p))

  -- nothing goes on from a path that has v
  void : (k : ℕ) (q : List ℕ) → has v q ≡ true → mine q k ≡ []
  unfolding longer
  void zero q h = rw (and_right (N.joined (final q) v) (not (has v q)) (not_from_true (has v q) h))
  void (suc k) q h =
      ap (λ x. map entry_of (filter ok x)) (join_counted (goes_on N q) (λ s. q ++ s ∷ []) (λ p. after N p k) 0 n)
      ∙ join_map_kept ok entry_of (goes_on N q) (λ s. after N (q ++ s ∷ []) k) 0 n
      ∙ join_void (goes_on N q) (λ s. mine (q ++ s ∷ []) k) 0 n (λ s. void k (q ++ s ∷ []) (has_push v s q ∙ rw h))

  step : (k : ℕ) (p : List ℕ) (st : Step) → Stands p st → length p ≤ 4 → has v p ≡ false →
      ((s : ℕ) → s < 6 → Stands (p ++ s ∷ []) (gone_on near st s) → has v (p ++ s ∷ []) ≡ false → walks near v (gone_on near st s) k ≡ mine (p ++ s ∷ []) k) →
      walks near v st (suc k) ≡ mine p (suc k)
  unfolding longer
  step k p st h short lacks more =
      join_short (can_go st) (λ s. walks near v (gone_on near st s) k) n 6 few
      (λ s l u. and_right (in_set st.near.bits s) (in_set st.free.bits s) (h.free_is s u ∙ and_left (ltb s n) (not (has s p) && not (eqb s v)) (le-ltb s n l)))
      ∙ join_same (can_go st) (goes_on N p) (λ s. walks near v (gone_on near st s) k) (λ s. mine (p ++ s ∷ []) k) 0 n (λ s l u. at s (omega arith))
      ∙ sym (join_map_kept ok entry_of (goes_on N p) (λ s. after N (p ++ s ∷ []) k) 0 n)
      ∙ sym (ap (λ x. map entry_of (filter ok x)) (join_counted (goes_on N p) (λ s. p ++ s ∷ []) (λ q. after N q k) 0 n))
    where
      can_is : (s : ℕ) → s < n → can_go st s ≡ (opens N p s && (true && (not (has s p) && not (eqb s v))))
      can_is s u =
          ap (λ x. x && in_set st.free.bits s) (h.near_is s (omega arith))
          ∙ ap (λ x. opens N p s && x) (h.free_is s (omega arith))
          ∙ ap (λ x. opens N p s && (x && (not (has s p) && not (eqb s v)))) (lt-ltb s n u)

      at : (s : ℕ) → s < n → cond (can_go st s) (walks near v (gone_on near st s) k) [] ≡ cond (goes_on N p s) (mine (p ++ s ∷ []) k) []
      at s u =
          ap (λ x. cond x (walks near v (gone_on near st s) k) []) (can_is s u)
          ∙ pick (opens N p s) (has s p) (eqb s v) (walks near v (gone_on near st s) k) (mine (p ++ s ∷ []) k)
          (λ e. void k (p ++ s ∷ []) (has_push v s p ∙ or_true (has v p) (eqb v s) (eq-eqb v s (sym (eqb-true s v e)))))
          (λ y ne. let free : in_set st.free.bits s ≡ true =
          h.free_is s (omega arith)
          ∙ and_from (ltb s n) (not (has s p) && not (eqb s v)) (lt-ltb s n u)
          (and_from (not (has s p)) (not (eqb s v)) (and_parts (opens N p s) (not (has s p)) y).1 (not_from_false (eqb s v) ne)) in
          more s (omega arith) (stands_on p st s h short (omega arith) free) (has_push v s p ∙ or_false (has v p) (eqb v s) (ne_eqb v s (λ e. eqb-false s v ne (sym e))) ∙ lacks))
          ∙ sym (ap (λ x. cond x (mine (p ++ s ∷ []) k) []) (goes_opens N p s))

  longer_are : (k : ℕ) (p : List ℕ) (x : ℕ) (st : Step) → Stands (p ++ x ∷ []) st → length p + k ≤ 4 → has v (p ++ x ∷ []) ≡ false →
      walks near v st k ≡ mine (p ++ x ∷ []) k
  longer_are zero p x st h short lacks =
      ap (λ b. cond b (st.path ∷ []) []) (h.near_is v (omega arith) ∙ opens_push N p x v)
      ∙ ap (λ y. cond (N.joined x v) (y ∷ []) []) h.path_is
      ∙ ap (λ b. cond b (entry_of (p ++ x ∷ []) ∷ []) [])
      (sym (and_true (N.joined (final (p ++ x ∷ [])) v) (not (has v (p ++ x ∷ []))) (not_from_false (has v (p ++ x ∷ [])) lacks)
      ∙ ap (λ z. N.joined z v) (final_push p x)))
      ∙ sym (map_cond entry_of (ok (p ++ x ∷ [])) ((p ++ x ∷ []) ∷ []))
  longer_are (suc k) p x st h short lacks =
      let e : length (p ++ x ∷ []) ≡ suc (length p) = length-append p (x ∷ []) ∙ omega arith in
      step k (p ++ x ∷ []) st h (omega arith) lacks (λ s u g l. longer_are k (p ++ x ∷ []) s (gone_on near st s) g (omega arith) l)

  root_stands : Stands [] (root n v)
  root_stands = record {
    near_is = λ s l. full_has 6 s l;
    free_is = λ s l. ⊎_elim (here s) (there s) (cases_eq s v);
    path_is = ap (λ x. entry x x 0) (sym word_root);
    unit_is = refl;
  }
    where
      here : (s : ℕ) → s ≡ v → in_set (others n (2 ^ v)) s ≡ (ltb s n && (true && not (eqb s v)))
      here s e =
          ap (in_set (2 ^ n - 1 - 2 ^ v)) e ∙ minus_same (2 ^ n - 1) v (full_has n v below)
          ∙ sym (and_right (ltb s n) (not (eqb s v)) (not_from_true (eqb s v) (eq-eqb s v e)))

      there : (s : ℕ) → (s ≡ v → ⊥) → in_set (others n (2 ^ v)) s ≡ (ltb s n && (true && not (eqb s v)))
      there s ne =
          minus_other (2 ^ n - 1) v s (full_has n v below) ne
          ∙ ⊎_elim (λ lt. full_has n s lt ∙ sym (lt-ltb s n lt)) (λ le. past s le ∙ sym (le-ltb s n le)) (cases_lt s n)
          ∙ sym (and_true (ltb s n) (not (eqb s v)) (not_from_false (eqb s v) (ne_eqb s v ne)))
        where
          past : (s : ℕ) → n ≤ s → in_set (2 ^ n - 1) s ≡ false
          past s le = in_set_above n (2 ^ n - 1) s (omega (arith, pow_pos n)) le

pub levels : (n : ℕ) (near : List ℕ) (v k : ℕ) → n ≤ 6 → v < n → k ≤ 4 → walks near v (root n v) (suc k) ≡ map entry_of (expected (wired n near) v (suc k))
unfolding expected
levels n near v k few below short =
    step n near v few below k [] (root n v) (root_stands n near v few below) (omega arith) refl
    (λ s u g l. longer_are n near v few below k [] s (gone_on near (root n v) s) g (omega arith) l)
    ∙ sym (ap (λ ps. map entry_of (filter (λ q. (wired n near).joined (final q) v && not (has v q)) ps)) (paths_after (wired n near) (suc k)))
