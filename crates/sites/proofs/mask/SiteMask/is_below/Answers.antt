use Rattle.std.proofs.Common.{◌≡◌, ℕ, ◌/◌, ◌^◌, ◌<◌, ◌≤◌, eqb, ltb, sym, ◌∙◌, ⊎_elim, arith, rules, pow_mono}
use native.Mathlib.Nat.{div-eq_of_lt}
use Rattle.std.proofs.lemmas.Bool.Decides.{nat_tests}
use Rattle.std.proofs.lemmas.Bool.{cases_lt, eq-eqb, ne_eqb, lt-ltb, le-ltb}
use Rattle.std.proofs.lemmas.Nat.{pow_pos, le-div}
use Rattle.sites.proofs.mask.SiteMask.is_below.Goals as goal

pub returns-then-n-ge32 : goal.returns-then-n-ge32
returns-then-n-ge32 c = let p : 2 ^ 32 ≤ 2 ^ c.args.n = pow_mono {i = 32} (omega arith) in grind (arith, nat_tests)

quotient_none : (w p : ℕ) → 0 < p → eqb (w / p) 0 ≡ ltb w p
quotient_none w p h =
    ⊎_elim
    (λ l. eq-eqb _ _ (div-eq_of_lt l) ∙ sym (lt-ltb w p l))
    (λ g. let q = le-div 1 w p h (omega arith) in ne_eqb _ _ (λ e. omega arith) ∙ sym (le-ltb w p g))
    (cases_lt w p)

pub returns-else-n-ge32 : goal.returns-else-n-ge32
returns-else-n-ge32 c = search (rules, quotient_none c.args.self.now.bits (2 ^ c.args.n) (pow_pos c.args.n))
