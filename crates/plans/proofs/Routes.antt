-- The words behind the head, counted from 0, and the first that serves as a route.
use Rattle.std.proofs.Common.{◌≡◌, ℕ, ◌+◌, ◌-◌, ◌<◌, ◌≤◌, Bool, false, List, Some, None, get_or, length, sym, subst, arith}
use Rattle.sites.specs.Positions.{first_from}
use Rattle.sites.proofs.Positions.{first_is, none_at, no_first, this_first}
use Rattle.sheets.specs.Parts.{later}
use Rattle.plans.specs.Taken.{route_here}
use Rattle.plans.specs.Complete.{route_place}

module _ (ws : List ℕ) (F u v : ℕ) where
  abbrev pub serves : ℕ → Bool
  serves k = route_here F u v (get_or ws (k + 1) 0)

  before : (m : ℕ) → ((k : ℕ) → k < m → serves k ≡ false) → (i : ℕ) → 1 ≤ i → i < 1 + m → route_here F u v (get_or ws i 0) ≡ false
  before m h i lo hi = let e : i - 1 + 1 ≡ i = omega arith in subst (λ (x : ℕ). route_here F u v (get_or ws x 0) ≡ false) e (h (i - 1) (omega arith))

  -- where no word serves, there is no place
  pub route_missing : first_from serves 0 (later ws) ≡ None → None ≡ route_place ws F u v
  unfolding route_here
  route_missing h = sym (no_first (λ i. route_here F u v (get_or ws i 0)) 1 (later ws) (before (later ws) (λ k l. none_at serves 0 (later ws) h k (omega arith) (omega arith))))

  -- the word that is found lies within the words
  pub found_fits : (k : ℕ) → first_from serves 0 (later ws) ≡ Some k → k + 1 < length ws
  found_fits k h = omega (arith, (first_is serves 0 (later ws) k h).2)

  -- the first word that serves, by its number, stands at the place of the first route
  pub route_is : (k : ℕ) → first_from serves 0 (later ws) ≡ Some k → Some (k + 1) ≡ route_place ws F u v
  unfolding route_here
  route_is k h =
      let q = first_is serves 0 (later ws) k h in
      sym (this_first (λ i. route_here F u v (get_or ws i 0)) 1 (later ws) (k + 1) (omega arith) (omega (arith, q.2)) q.0 (λ i lo hi. before k (λ j l. q.3 j (omega arith) l) i lo (omega arith)))
