-- The members of a site set, the set of a test, the complement, and the size.
use Rattle.std.proofs.Common.{◌≡◌, ℕ, zero, suc, ◌+◌, ◌*◌, ◌/◌, ◌%◌, ◌^◌, ◌<◌, ◌≤◌, Bool, true, false, cond, not, eqb, List, length, sym, refl, ap, ◌∙◌, subst, ⊎_elim, pow-suc, div-one, arith}
use lib.Count.{ones, ones_in, ones_step}
use Rattle.std.proofs.lemmas.Bool.{eqb-true, eq-eqb, ne_eqb, cases_eq, cases_lt}
use Rattle.std.proofs.lemmas.Nat.{shr-shr, pow_pos}
use Rattle.sites.specs.Sets.{in_set, mask_of, others}
use Rattle.sites.specs.Lists.{In, Distinct}
use Rattle.sites.proofs.Lists.{count, count_same, distinct_fit}

-- ---- members, lowest first

pub two : (k : ℕ) → 2 ^ suc k ≡ 2 * 2 ^ k
two k = pow-suc 2 k ∙ omega arith

pub in_set_suc : (m s : ℕ) → in_set m (suc s) ≡ in_set (m / 2) s
in_set_suc m s = let e : m / 2 / 2 ^ s ≡ m / 2 ^ suc s = shr-shr m 1 s ∙ ap (λ (k : ℕ). m / 2 ^ k) (omega arith) in ap (λ (x : ℕ). eqb (x % 2) 1) (sym e)

pub in_set_zero : (m : ℕ) → in_set m 0 ≡ eqb (m % 2) 1
in_set_zero m = ap (λ (x : ℕ). eqb (x % 2) 1) (div-one m)

-- adding 2 ^ n leaves the members below n
pub in_set_add_low : (s n m : ℕ) → s < n → in_set (m + 2 ^ n) s ≡ in_set m s
in_set_add_low s zero m h = absurd (omega arith)
in_set_add_low zero (suc n) m h = rw (in_set_zero (m + 2 ^ suc n), in_set_zero m) (ap (λ (x : ℕ). eqb x 1) (omega (arith, two n)))
in_set_add_low (suc s) (suc n) m h =
    let e : (m + 2 ^ suc n) / 2 ≡ m / 2 + 2 ^ n = omega (arith, two n) in
    in_set_suc (m + 2 ^ suc n) s ∙ ap (λ (x : ℕ). in_set x s) e ∙ in_set_add_low s n (m / 2) (omega arith) ∙ sym (in_set_suc m s)

pub in_set_add_top : (n m : ℕ) → m < 2 ^ n → in_set (m + 2 ^ n) n ≡ true
in_set_add_top zero m h = rw in_set_zero (eq-eqb ((m + 2 ^ 0) % 2) 1 (omega arith))
in_set_add_top (suc n) m h =
    let e : (m + 2 ^ suc n) / 2 ≡ m / 2 + 2 ^ n = omega (arith, two n) in
    in_set_suc (m + 2 ^ suc n) n ∙ ap (λ (x : ℕ). in_set x n) e ∙ in_set_add_top n (m / 2) (omega (arith, two n))

-- a set of sites below n has no site from n on
pub in_set_above : (n m s : ℕ) → m < 2 ^ n → n ≤ s → in_set m s ≡ false
in_set_above zero m zero h l = rw in_set_zero (ne_eqb (m % 2) 1 (λ e. omega arith))
in_set_above zero m (suc s) h l = in_set_suc m s ∙ in_set_above zero (m / 2) s (omega arith) (omega arith)
in_set_above (suc n) m zero h l = absurd (omega arith)
in_set_above (suc n) m (suc s) h l = in_set_suc m s ∙ in_set_above n (m / 2) s (omega (arith, two n)) (omega arith)

flip : (x y : ℕ) → x + y ≡ 1 → eqb x 1 ≡ not (eqb y 1)
flip zero y e = rw (eq-eqb y 1 (omega arith))
flip (suc x) y e = rw (ne_eqb y 1 (λ d. omega arith), eq-eqb (suc x) 1 (omega arith))

pub in_set_others : (s n m : ℕ) → s < n → m < 2 ^ n → in_set (others n m) s ≡ not (in_set m s)
in_set_others s zero m h k = absurd (omega arith)
in_set_others zero (suc n) m h k = rw (in_set_zero (others (suc n) m), in_set_zero m) (flip (others (suc n) m % 2) (m % 2) (omega (arith, two n)))
in_set_others (suc s) (suc n) m h k =
    let e : others (suc n) m / 2 ≡ others n (m / 2) = omega (arith, two n) in
    in_set_suc (others (suc n) m) s ∙ ap (λ (x : ℕ). in_set x s) e ∙ in_set_others s n (m / 2) (omega arith) (omega (arith, two n)) ∙ ap not (sym (in_set_suc m s))

pub others_below : (n m : ℕ) → others n m < 2 ^ n
others_below n m = omega (arith, pow_pos n)

pub others_twice : (n m : ℕ) → m < 2 ^ n → others n (others n m) ≡ m
others_twice n m h = omega arith

-- ---- the set of a test

pub mask_of_below : (n : ℕ) (g : ℕ → Bool) → mask_of n g < 2 ^ n
unfolding mask_of
mask_of_below zero g = omega arith
mask_of_below (suc n) g =
    let h : mask_of n g < 2 ^ n = mask_of_below n g in
    elim (g n) as (λ b. mask_of n g + cond b (2 ^ n) 0 < 2 ^ suc n) [ true ↦ omega (arith, two n) | false ↦ omega (arith, two n) ]

pub in_set_mask_of : (n : ℕ) (g : ℕ → Bool) (s : ℕ) → s < n → in_set (mask_of n g) s ≡ g s
unfolding mask_of
in_set_mask_of zero g s h = absurd (omega arith)
in_set_mask_of (suc n) g s h =
    ⊎_elim (λ l. low (g n) l ∙ in_set_mask_of n g s l) (λ l. let e : s ≡ n = omega arith in top (g n) refl e) (cases_lt s n)
  where
    m : ℕ
    m = mask_of n g

    low : (b : Bool) → s < n → in_set (m + cond b (2 ^ n) 0) s ≡ in_set m s
    low true l = in_set_add_low s n m l
    low false l = ap (λ (x : ℕ). in_set x s) (omega arith)

    top : (b : Bool) → g n ≡ b → s ≡ n → in_set (m + cond b (2 ^ n) 0) s ≡ g s
    top true d e = subst (λ (x : ℕ). in_set (m + 2 ^ n) x ≡ g x) (sym e) (in_set_add_top n m (mask_of_below n g) ∙ sym d)
    top false d e = subst (λ (x : ℕ). in_set (m + 0) x ≡ g x) (sym e) (ap (λ (x : ℕ). in_set x n) (omega arith) ∙ in_set_above n m n (mask_of_below n g) (omega arith) ∙ sym d)

pub mask_of_same : (n : ℕ) (g h : ℕ → Bool) → ((s : ℕ) → s < n → g s ≡ h s) → mask_of n g ≡ mask_of n h
unfolding mask_of
mask_of_same zero g h e = refl
mask_of_same (suc n) g h e = let a = mask_of_same n g h (λ s l. e s (omega arith)) in let b = e n (omega arith) in cc

-- two sets of sites below n with the same members are one
pub same_set : (n a b : ℕ) → a < 2 ^ n → b < 2 ^ n → ((s : ℕ) → s < n → in_set a s ≡ in_set b s) → a ≡ b
same_set zero a b h k e = omega arith
same_set (suc n) a b h k e =
    let half : a / 2 ≡ b / 2 = same_set n (a / 2) (b / 2) (omega (arith, two n)) (omega (arith, two n)) (λ s l. sym (in_set_suc a s) ∙ e (suc s) (omega arith) ∙ in_set_suc b s) in
    let low : eqb (a % 2) 1 ≡ eqb (b % 2) 1 = sym (in_set_zero a) ∙ e 0 (omega arith) ∙ in_set_zero b in
    let rest : a % 2 ≡ b % 2 = bit (a % 2) (b % 2) (omega arith) (omega arith) low in
    omega arith
  where
    bit : (x y : ℕ) → x < 2 → y < 2 → eqb x 1 ≡ eqb y 1 → x ≡ y
    bit x y h k e = ⊎_elim
        (λ (d : x ≡ 1). let z : y ≡ 1 = eqb-true y 1 (sym e ∙ eq-eqb x 1 d) in omega arith)
        (λ d. ⊎_elim (λ (z : y ≡ 1). absurd (d (eqb-true x 1 (e ∙ eq-eqb y 1 z)))) (λ z. low d z) (cases_eq y 1))
        (cases_eq x 1)
      where
        zero_if : (w : ℕ) → w < 2 → (w ≡ 1 → ⊥) → w ≡ 0
        zero_if w l z = ⊎_elim (λ q. q) (λ q. absurd (z (omega arith))) (cases_eq w 0)

        low : (x ≡ 1 → ⊥) → (y ≡ 1 → ⊥) → x ≡ y
        low d z = let p = zero_if x h d in let q = zero_if y k z in omega arith

pub mask_of_in_set : (n m : ℕ) → m < 2 ^ n → mask_of n (in_set m) ≡ m
mask_of_in_set n m h = same_set n (mask_of n (in_set m)) m (mask_of_below n (in_set m)) h (λ s l. in_set_mask_of n (in_set m) s l)

-- ---- the size

pub ones_zero : ones 0 ≡ 0
unfolding ones ones_in
ones_zero = refl

low_bit : (m : ℕ) → cond (in_set m 0) 1 0 ≡ m % 2
low_bit m = go (m % 2) (in_set_zero m) (omega arith)
  where
    go : (d : ℕ) → in_set m 0 ≡ eqb d 1 → d < 2 → cond (in_set m 0) 1 0 ≡ d
    go d e l = ap (λ b. cond {A = ℕ} b 1 0) e ∙ ⊎_elim (λ (k : d ≡ 0). let z : 0 ≡ d = sym k in subst (λ (x : ℕ). cond (eqb x 1) 1 0 ≡ x) z refl)
        (λ k. let z : 1 ≡ d = omega arith in subst (λ (x : ℕ). cond (eqb x 1) 1 0 ≡ x) z refl) (cases_eq d 0)

-- the size of a set of sites below n is the number of its members
pub ones_count : (n m : ℕ) → m < 2 ^ n → ones m ≡ count n (in_set m)
unfolding count
ones_count zero m h = let e : m ≡ 0 = omega arith in ap ones e ∙ ones_zero
ones_count (suc n) m h =
    let a : ones (m / 2) ≡ count n (in_set (m / 2)) = ones_count n (m / 2) (omega (arith, two n)) in
    let b : count n (λ s. in_set m (suc s)) ≡ count n (in_set (m / 2)) = count_same n (λ s. in_set m (suc s)) (in_set (m / 2)) (in_set_suc m) in
    omega (arith, ones_step m, low_bit m)

-- different members are no more than the size
pub members_fit : (n m : ℕ) (xs : List ℕ) → m < 2 ^ n → Distinct xs → ((s : ℕ) → In s xs → (s < n) × (in_set m s ≡ true)) → length xs ≤ ones m
members_fit n m xs h d k = omega (arith, ones_count n m h, distinct_fit n xs (in_set m) d k)

pub ones_others : (n m : ℕ) → m < 2 ^ n → ones m + ones (others n m) ≡ n
ones_others zero m h = let e : m ≡ 0 = omega arith in let d : others 0 m ≡ 0 = omega arith in omega (arith, ap ones e, ap ones d, ones_zero)
ones_others (suc n) m h =
    let e : others (suc n) m / 2 ≡ others n (m / 2) = omega (arith, two n) in
    let r : m % 2 + others (suc n) m % 2 ≡ 1 = omega (arith, two n) in
    let k : ones (m / 2) + ones (others n (m / 2)) ≡ n = ones_others n (m / 2) (omega (arith, two n)) in
    omega (arith, ones_step m, ones_step (others (suc n) m), ap ones e)
