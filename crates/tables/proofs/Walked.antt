-- One step of a walk.
use Rattle.std.proofs.Common.{◌≡◌, ℕ, suc, ◌+◌, ◌-◌, ◌*◌, ◌/◌, ◌^◌, ◌<◌, ◌≤◌, List, ap, arith}
use Rattle.std.proofs.lemmas.Nat.{mul-le}
use Rattle.tables.specs.Joins.{join_from}
use Rattle.tables.specs.Steps.{can_go, gone_on, walks}
use Rattle.tables.specs.declared.step.Step.{Step}

-- the paths that go on by one site or more
pub walks_more : (near : List ℕ) (v : ℕ) (st : Step) (k : ℕ) → 0 < k →
    walks near v st k ≡ join_from (can_go st) (λ s. walks near v (gone_on near st s) (k - 1)) 0 6
walks_more near v st k h = let e : k ≡ suc (k - 1) = omega arith in ap (walks near v st) e

-- the words stay small
pub small_more : (w u s k : ℕ) → s < 6 → 0 < k → w + k * 2 ^ 25 + 8 * u < 2 ^ 32 → (w + 2 ^ 25 + s * u) + (k - 1) * 2 ^ 25 + 8 * (u / 8) < 2 ^ 32
small_more w u s k h l b =
    let m : s * u ≤ 5 * u = mul-le s u 5 u (omega arith) (omega arith) in
    omega arith
