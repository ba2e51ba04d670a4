-- Sets from which a site is taken, and the set of all sites below n.
use Rattle.std.proofs.Common.{◌≡◌, ℕ, ◌+◌, ◌-◌, ◌*◌, ◌/◌, ◌%◌, ◌^◌, ◌<◌, ◌≤◌, true, false, eqb, sym, ap, ◌∙◌, ⊎_elim, mul_comm, add-mul, one-mul, arith}
use Rattle.std.proofs.lemmas.Bool.{eqb-true, eq-eqb, ne_eqb, cases_lt}
use Rattle.std.proofs.lemmas.Nat.{div-add-mod', div-mul-add, mul-le, shr-shr, pow_pos, mod_below, pow-add}
use Rattle.sites.specs.Sets.{in_set}

-- a set that holds a site is no less than the set of that site alone
pub in_set_least : (m s : ℕ) → in_set m s ≡ true → 2 ^ s ≤ m
in_set_least m s h =
    let e : m / 2 ^ s % 2 ≡ 1 = eqb-true (m / 2 ^ s % 2) 1 h in
    let k : 1 ≤ m / 2 ^ s = omega arith in
    omega (arith, div-add-mod' m (2 ^ s), mul-le 1 (2 ^ s) (m / 2 ^ s) (2 ^ s) k (omega arith))

-- what is left of a set without one of its sites, above that site
above_minus : (m s : ℕ) → in_set m s ≡ true → (h : ℕ) × (m / 2 ^ s ≡ 2 * h + 1) × ((m - 2 ^ s) / 2 ^ s ≡ 2 * h)
above_minus m s b =
    let e : m / 2 ^ s % 2 ≡ 1 = eqb-true (m / 2 ^ s % 2) 1 b in
    let h : ℕ = m / 2 ^ s / 2 in
    let q : m / 2 ^ s ≡ 2 * h + 1 = omega arith in
    let r : m % 2 ^ s < 2 ^ s = mod_below m (2 ^ s) (pow_pos s) in
    let x : (2 * h + 1) * 2 ^ s ≡ (2 * h) * 2 ^ s + 2 ^ s = add-mul (2 * h) 1 (2 ^ s) ∙ ap (λ y. (2 * h) * 2 ^ s + y) (one-mul (2 ^ s)) in
    let y : m / 2 ^ s * 2 ^ s ≡ (2 * h + 1) * 2 ^ s = ap (λ z. z * 2 ^ s) q in
    let d : m - 2 ^ s ≡ (2 * h) * 2 ^ s + m % 2 ^ s = omega (arith, div-add-mod' m (2 ^ s)) in
    (h, q, ap (λ z. z / 2 ^ s) d ∙ div-mul-add (2 * h) (2 ^ s) (m % 2 ^ s) r)

pub minus_same : (m s : ℕ) → in_set m s ≡ true → in_set (m - 2 ^ s) s ≡ false
minus_same m s b =
    let a = above_minus m s b in
    ne_eqb ((m - 2 ^ s) / 2 ^ s % 2) 1 (λ e. omega (arith, a.2))

minus_high : (m s j : ℕ) → in_set m s ≡ true → in_set (m - 2 ^ s) (s + (1 + j)) ≡ in_set m (s + (1 + j))
minus_high m s j b =
    let a = above_minus m s b in
    let same : (m - 2 ^ s) / 2 ^ s / 2 ≡ m / 2 ^ s / 2 = omega (arith, a.1, a.2) in
    let x : (m - 2 ^ s) / 2 ^ (s + (1 + j)) ≡ (m - 2 ^ s) / 2 ^ s / 2 / 2 ^ j = sym (shr-shr (m - 2 ^ s) s (1 + j)) ∙ sym (shr-shr ((m - 2 ^ s) / 2 ^ s) 1 j) in
    let y : m / 2 ^ (s + (1 + j)) ≡ m / 2 ^ s / 2 / 2 ^ j = sym (shr-shr m s (1 + j)) ∙ sym (shr-shr (m / 2 ^ s) 1 j) in
    ap (λ z. eqb (z % 2) 1) (x ∙ ap (λ z. z / 2 ^ j) same ∙ sym y)

minus_low : (m t j : ℕ) → 2 ^ (t + (1 + j)) ≤ m → in_set (m - 2 ^ (t + (1 + j))) t ≡ in_set m t
minus_low m t j le =
    let w : ℕ = 2 ^ t in
    let c : ℕ = 2 ^ j in
    let k : ℕ = m - 2 ^ (t + (1 + j)) in
    let p : 2 ^ (t + (1 + j)) ≡ (2 * c) * w =
    pow-add 2 t (1 + j) ∙ ap (λ x. 2 ^ t * x) (pow-add 2 1 j) ∙ mul_comm (2 ^ t) (2 * 2 ^ j) in
    let r : k % w < w = mod_below k w (pow_pos t) in
    let x : (k / w + 2 * c) * w ≡ k / w * w + (2 * c) * w = add-mul (k / w) (2 * c) w in
    let d : m ≡ (k / w + 2 * c) * w + k % w = omega (arith, div-add-mod' k w) in
    let q : m / w ≡ k / w + 2 * c = ap (λ z. z / w) d ∙ div-mul-add (k / w + 2 * c) w (k % w) r in
    let e : k / w % 2 ≡ m / w % 2 = omega arith in
    ap (λ z. eqb z 1) e

minus_below : (m s t j : ℕ) → s ≡ t + (1 + j) → 2 ^ s ≤ m → in_set (m - 2 ^ s) t ≡ in_set m t
minus_below m s t j e le = rw e (minus_low m t j (rw e at le))

pub minus_other : (m s t : ℕ) → in_set m s ≡ true → (t ≡ s → ⊥) → in_set (m - 2 ^ s) t ≡ in_set m t
minus_other m s t b ne =
    ⊎_elim
    (λ lt. minus_below m s t (s - t - 1) (omega arith) (in_set_least m s b))
    (λ le. let e : t ≡ s + (1 + (t - s - 1)) = omega arith in
    ap (λ x. in_set (m - 2 ^ s) x) e ∙ minus_high m s (t - s - 1) b ∙ sym (ap (λ x. in_set m x) e))
    (cases_lt t s)

-- the set of the sites below n holds each of them
full_low : (v j : ℕ) → in_set (2 ^ (v + (1 + j)) - 1) v ≡ true
full_low v j =
    let w : ℕ = 2 ^ v in
    let c : ℕ = 2 ^ j in
    let p : 2 ^ (v + (1 + j)) ≡ (2 * c) * w =
    pow-add 2 v (1 + j) ∙ ap (λ x. 2 ^ v * x) (pow-add 2 1 j) ∙ mul_comm (2 ^ v) (2 * 2 ^ j) in
    let pc = pow_pos j in
    let pw = pow_pos v in
    let h : ℕ = 2 * c - 1 in
    let x : 2 * c ≡ h + 1 = omega arith in
    let y : (2 * c) * w ≡ h * w + w = ap (λ z. z * w) x ∙ add-mul h 1 w ∙ ap (λ z. h * w + z) (one-mul w) in
    let d : 2 ^ (v + (1 + j)) - 1 ≡ h * w + (w - 1) = omega arith in
    let q : (2 ^ (v + (1 + j)) - 1) / w ≡ h = ap (λ z. z / w) d ∙ div-mul-add h w (w - 1) (omega arith) in
    eq-eqb ((2 ^ (v + (1 + j)) - 1) / w % 2) 1 (omega arith)

pub full_has : (n v : ℕ) → v < n → in_set (2 ^ n - 1) v ≡ true
full_has n v h = let e : n ≡ v + (1 + (n - v - 1)) = omega arith in ap (λ x. in_set (2 ^ x - 1) v) e ∙ full_low v (n - v - 1)
