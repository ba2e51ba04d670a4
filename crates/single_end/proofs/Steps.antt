-- Turns, phases and the last turn.
use Rattle.std.proofs.Common.{◌≡◌, ℕ, suc, ◌+◌, ◌*◌, ◌/◌, ◌%◌, ◌<◌, ◌≤◌, ltb, sym, ◌∙◌, ⊎_elim, mul-le-mul_right, suc-mul, arith}
use Rattle.std.proofs.lemmas.Nat.{div-add-mod', mod_below}
use Rattle.std.proofs.lemmas.Bool.{cases_lt, lt-ltb, le-ltb}

module _ (m t q : ℕ) (pos : 0 < m) where
  -- a turn within a phase is not the last
  pub not_last : t < q * m → (t % m + 1 ≡ m → ⊥) → suc t < q * m
  not_last l d =
      let whole = div-add-mod' t m in
      let low = mod_below t m pos in
      ⊎_elim
      (λ (h : t / m < q).
      let up : suc (t / m) * m ≤ q * m = mul-le-mul_right m (omega arith) in
      let one = suc-mul (t / m) m in
      ⊎_elim
      (λ (e : t % m + 1 < m). omega arith)
      (λ (e : m ≤ t % m + 1). absurd (d (omega arith)))
      (cases_lt (t % m + 1) m))
      (λ (h : q ≤ t / m). let down : q * m ≤ t / m * m = mul-le-mul_right m h in absurd (omega arith))
      (cases_lt (t / m) q)

  -- the last turn of a phase is the last of all where the phase is the last
  pub last_of_phase : t % m + 1 ≡ m → ltb (suc t) (q * m) ≡ ltb (t / m + 1) q
  last_of_phase e =
      let whole = div-add-mod' t m in
      let one = suc-mul (t / m) m in
      let here : suc t ≡ suc (t / m) * m = omega arith in
      ⊎_elim
      (λ (h : t / m + 1 < q).
      let up : suc (suc (t / m)) * m ≤ q * m = mul-le-mul_right m (omega arith) in
      let two = suc-mul (suc (t / m)) m in
      let l : suc t < q * m = omega arith in
      lt-ltb (suc t) (q * m) l ∙ sym (lt-ltb (t / m + 1) q h))
      (λ (h : q ≤ t / m + 1).
      let down : q * m ≤ suc (t / m) * m = mul-le-mul_right m (omega arith) in
      let l : q * m ≤ suc t = omega arith in
      le-ltb (suc t) (q * m) l ∙ sym (le-ltb (t / m + 1) q h))
      (cases_lt (t / m + 1) q)
