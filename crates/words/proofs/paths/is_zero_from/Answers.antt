use Rattle.std.proofs.Common.{◌≡◌, ℕ, ◌-◌, ◌<◌, ◌≤◌, get_or, IsTrue, ◌↔◌, arith, rules}
use Rattle.std.proofs.iter.runs.Made.{chains}
use Rattle.std.proofs.lemmas.Bool.{eq-eqb, eqb-true}
use Rattle.sites.proofs.Positions.{all_is}
use Rattle.words.proofs.paths.is_zero_from.Goals as goal

pub returns : goal.returns
returns c =
    let n = c.args.n in
    let h : IsTrue c.all.result ↔ ((k : ℕ) → n ≤ k → k < 6 → get_or c.args.fields.now k 0 ≡ 0) = search (rules, chains) in
    all_is _ n (6 - n) c.all.result (λ t k lo hi. eq-eqb _ _ (h.0 t k lo (omega arith)), λ f. h.1 (λ k lo hi. eqb-true _ _ (f k lo (omega arith))))
