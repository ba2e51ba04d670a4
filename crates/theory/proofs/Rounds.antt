-- Turns, phases and rounds: how what is held and owed goes from turn to turn.
use Rattle.std.proofs.Common.{◌≡◌, ℕ, suc, ◌+◌, ◌-◌, ◌*◌, ◌/◌, ◌%◌, ◌<◌, ◌≤◌, Bool, ap, ◌∙◌, suc-mul, arith}
use native.Mathlib.Nat.{zero-div}
use Rattle.std.proofs.lemmas.Nat.{div-mul-add, mod-mul-add, div-add-mod', mod_below}
use Rattle.theory.specs.Network.{Network}
use Rattle.theory.specs.Flooding.{Said, heard}
use Rattle.theory.specs.Weighing.{weigh}
use Rattle.theory.specs.Runs.{suspect, start, held, owed, holds, owes}

module _ (m t : ℕ) (pos : 0 < m) where
  -- a turn within a phase
  pub inside : (t % m + 1 ≡ m → ⊥) → (suc t / m ≡ t / m) × (suc t % m ≡ suc (t % m))
  inside d =
      let l : suc (t % m) < m = omega (arith, mod_below t m pos) in
      let e : suc t ≡ t / m * m + suc (t % m) = omega (arith, div-add-mod' t m) in
      (ap (λ (x : ℕ). x / m) e ∙ div-mul-add (t / m) m (suc (t % m)) l, ap (λ (x : ℕ). x % m) e ∙ mod-mul-add (t / m) m (suc (t % m)) l)

  -- the last turn of a phase
  pub across : t % m + 1 ≡ m → (suc t / m ≡ suc (t / m)) × (suc t % m ≡ 0)
  across c =
      let e : suc t ≡ suc (t / m) * m + 0 = omega (arith, div-add-mod' t m, suc-mul (t / m) m) in
      (ap (λ (x : ℕ). x / m) e ∙ div-mul-add (suc (t / m)) m 0 pos, ap (λ (x : ℕ). x % m) e ∙ mod-mul-add (suc (t / m)) m 0 pos)

module _ (N : Network) (said : Said) (opening : ℕ → Bool) (least : 2 ≤ N.n) where
  -- within a phase a site goes on to hold its bit
  pub holds_inside : (t v : ℕ) → (t % (N.n - 1) + 1 ≡ N.n - 1 → ⊥) → holds N said opening (suc t) v ≡ holds N said opening t v
  unfolding holds
  holds_inside t v d = ap (λ (p : ℕ). held N said opening p v) (inside (N.n - 1) t (omega arith) d).0

  -- after the last turn of a phase it holds what it weighs
  pub holds_across : (t v : ℕ) → t % (N.n - 1) + 1 ≡ N.n - 1 →
      holds N said opening (suc t) v ≡ weigh N (heard said (start N (t / (N.n - 1)))) (suspect N (t / (N.n - 1))) (holds N said opening t v) v
  unfolding holds held
  holds_across t v e = ap (λ (p : ℕ). held N said opening p v) (across (N.n - 1) t (omega arith) e).0

  pub holds_none : (v : ℕ) → holds N said opening 0 v ≡ opening v
  unfolding holds held
  holds_none v = let z : 0 / (N.n - 1) ≡ 0 = zero-div (N.n - 1) in ap (λ (p : ℕ). held N said opening p v) z

  -- what is owed in a turn, by its phase and its round
  pub owes_at : (p r v : ℕ) → r < N.n - 1 → owes N said opening (start N p + r) v ≡ owed N said opening p r v
  unfolding owes
  owes_at p r v k =
      let m : ℕ = N.n - 1 in
      ap (λ (x : ℕ). owed N said opening x ((p * m + r) % m) v) (div-mul-add p m r k) ∙ ap (λ (x : ℕ). owed N said opening p x v) (mod-mul-add p m r k)
