use Rattle.std.proofs.Common.{ℕ, ◌<◌, length, get_or, IsTrue, ◌↔◌, rules}
use Rattle.std.proofs.iter.runs.Made.{chains}
use Rattle.std.proofs.lemmas.Bool.{lt-ltb, ltb-true}
use Rattle.sites.proofs.Positions.{each_is}
use Rattle.sheets.proofs.rows.are_below.Goals as goal

pub returns : goal.returns
returns c =
    let s = c.args.sites.now in
    let h : IsTrue c.all.result ↔ ((k : ℕ) → k < length s → get_or s k 0 < c.args.n) = search (rules, chains) in
    each_is _ (length s) c.all.result (λ t k l. lt-ltb _ _ (h.0 t k l), λ f. h.1 (λ k l. ltb-true _ _ (f k l)))
