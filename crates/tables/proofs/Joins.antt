-- Lists joined over a run of positions.
use Rattle.std.proofs.Common.{◌≡◌, ℕ, zero, suc, ◌+◌, ◌-◌, ◌<◌, ◌≤◌, Bool, true, false, cond, List, [], ◌∷◌, ◌++◌, map, length, filter, sym, refl, ap, ◌∙◌, append_assoc, append-nil, arith, length-append}
use Rattle.std.specs.List.{range_with_len}
use Rattle.std.proofs.lemmas.List.{map-append}
use Rattle.std.proofs.lemmas.List.Elements.{filter-append}
use Rattle.sites.specs.Lists.{join_all}
use Rattle.tables.specs.Joins.{join_from}

split : (n i : ℕ) → i < n → n - i ≡ suc (n - (i + 1))
split n i h = omega arith

module _ {X : Type 0} (p : ℕ → Bool) (f : ℕ → List X) where
  pub join_hit : (xs : List X) (i n : ℕ) → i < n → p i ≡ true → (xs ++ f i) ++ join_from p f (i + 1) (n - (i + 1)) ≡ xs ++ join_from p f i (n - i)
  join_hit xs i n h e = rw (split n i h, e) (append_assoc xs (f i) (join_from p f (i + 1) (n - (i + 1))))

  pub join_miss : (xs : List X) (i n : ℕ) → i < n → p i ≡ false → xs ++ join_from p f (i + 1) (n - (i + 1)) ≡ xs ++ join_from p f i (n - i)
  join_miss xs i n h e = rw (split n i h, e)

  pub join_end : (xs : List X) (i n : ℕ) → n ≤ i → xs ++ join_from p f i (n - i) ≡ xs
  join_end xs i n h = let z : n - i ≡ 0 = omega arith in rw (z, append-nil)

  pub join_room : (xs ys : List X) (i n m : ℕ) → i < n → p i ≡ true → xs ++ join_from p f i (n - i) ≡ ys → length ys ≤ m → length xs + length (f i) ≤ m
  join_room xs ys i n m h e inv le =
      omega (arith, ap length (join_hit xs i n h e ∙ inv), length-append (xs ++ f i) (join_from p f (i + 1) (n - (i + 1))), length-append xs (f i))

-- ---- two joins alike

module _ {X : Type 0} where
  pub join_same : (p q : ℕ → Bool) (f g : ℕ → List X) (i n : ℕ) → ((s : ℕ) → i ≤ s → s < i + n → cond (p s) (f s) [] ≡ cond (q s) (g s) []) →
      join_from p f i n ≡ join_from q g i n
  join_same p q f g i zero h = refl
  join_same p q f g i (suc n) h =
      ap (λ (x : List X). x ++ join_from p f (i + 1) n) (h i (omega arith) (omega arith))
      ∙ ap (λ (x : List X). cond (q i) (g i) [] ++ x) (join_same p q f g (i + 1) n (λ s l u. h s (omega arith) (omega arith)))

  join_split : (p : ℕ → Bool) (f : ℕ → List X) (i m n : ℕ) → join_from p f i (m + n) ≡ join_from p f i m ++ join_from p f (i + m) n
  join_split p f i zero n = let e : zero + n ≡ n = omega arith in let d : i + zero ≡ i = omega arith in rw (e, d)
  join_split p f i (suc m) n =
      let e : suc m + n ≡ suc (m + n) = omega arith in
      let d : i + suc m ≡ (i + 1) + m = omega arith in
      rw (e, d, join_split p f (i + 1) m n) (sym (append_assoc (cond (p i) (f i) []) (join_from p f (i + 1) m) (join_from p f ((i + 1) + m) n)))

  join_none : (p : ℕ → Bool) (f : ℕ → List X) (i n : ℕ) → ((s : ℕ) → i ≤ s → s < i + n → p s ≡ false) → join_from p f i n ≡ []
  join_none p f i zero h = refl
  join_none p f i (suc n) h = rw (h i (omega arith) (omega arith)) (join_none p f (i + 1) n (λ s l u. h s (omega arith) (omega arith)))

  -- the positions past n fail
  pub join_short : (p : ℕ → Bool) (f : ℕ → List X) (n m : ℕ) → n ≤ m → ((s : ℕ) → n ≤ s → s < m → p s ≡ false) → join_from p f 0 m ≡ join_from p f 0 n
  join_short p f n m le h =
      let e : m ≡ n + (m - n) = omega arith in
      let z : 0 + n ≡ n = omega arith in
      ap (λ x. join_from p f 0 x) e ∙ join_split p f 0 n (m - n)
      ∙ ap (λ (x : List X). join_from p f 0 n ++ x) (join_none p f (0 + n) (m - n) (λ s l u. h s (omega arith) (omega arith)))
      ∙ append-nil (join_from p f 0 n)

  -- where f gives nothing
  pub join_void : (p : ℕ → Bool) (f : ℕ → List X) (i n : ℕ) → ((s : ℕ) → f s ≡ []) → join_from p f i n ≡ []
  join_void p f i zero h = refl
  join_void p f i (suc n) h = ap (λ (x : List X). x ++ join_from p f (i + 1) n) (cond_void (p i) (f i) (h i)) ∙ join_void p f (i + 1) n h
    where
      cond_void : (b : Bool) (xs : List X) → xs ≡ [] → cond b xs [] ≡ []
      cond_void true xs e = e
      cond_void false xs e = refl

-- ---- what is joined from a counted list that was filtered and mapped

counted_step : {X Y : Type 0} (g : ℕ → Y) (F : Y → List X) (b : Bool) (i : ℕ) (r : List ℕ) →
    join_all (map F (map g (cond b (i ∷ r) r))) ≡ cond b (F (g i)) [] ++ join_all (map F (map g r))
counted_step g F true i r = refl
counted_step g F false i r = refl

pub join_counted : {X Y : Type 0} (t : ℕ → Bool) (g : ℕ → Y) (F : Y → List X) (i n : ℕ) →
    join_all (map F (map g (filter t (range_with_len i n)))) ≡ join_from t (λ s. F (g s)) i n
join_counted t g F i zero = refl
join_counted t g F i (suc n) =
    counted_step g F (t i) i (filter t (range_with_len (i + 1) n)) ∙ ap (λ x. cond (t i) (F (g i)) [] ++ x) (join_counted t g F (i + 1) n)

kept_cond : {X : Type 0} (ok : X → Bool) (b : Bool) (xs : List X) → filter ok (cond b xs []) ≡ cond b (filter ok xs) []
kept_cond ok true xs = refl
kept_cond ok false xs = refl

pub map_cond : {X Y : Type 0} (g : X → Y) (b : Bool) (xs : List X) → map g (cond b xs []) ≡ cond b (map g xs) []
map_cond g true xs = refl
map_cond g false xs = refl

pub join_map_kept : {X Y : Type 0} (ok : X → Bool) (g : X → Y) (t : ℕ → Bool) (f : ℕ → List X) (i n : ℕ) →
    map g (filter ok (join_from t f i n)) ≡ join_from t (λ s. map g (filter ok (f s))) i n
join_map_kept ok g t f i zero = refl
join_map_kept ok g t f i (suc n) =
    ap (map g) (filter-append ok (cond (t i) (f i) []) (join_from t f (i + 1) n))
    ∙ map-append g (filter ok (cond (t i) (f i) [])) (filter ok (join_from t f (i + 1) n))
    ∙ ap (λ x. map g x ++ map g (filter ok (join_from t f (i + 1) n))) (kept_cond ok (t i) (f i))
    ∙ ap (λ x. x ++ map g (filter ok (join_from t f (i + 1) n))) (map_cond g (t i) (filter ok (f i)))
    ∙ ap (λ x. cond (t i) (map g (filter ok (f i))) [] ++ x) (join_map_kept ok g t f (i + 1) n)
