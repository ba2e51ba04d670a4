use Rattle.std.proofs.Common.{ℕ, ◌+◌, ◌-◌, ◌<◌, length, get_or, IsTrue, ◌↔◌, rules, arith}
use Rattle.std.proofs.iter.runs.Made.{chains}
use Rattle.sites.proofs.Positions.{each_is}
use Rattle.sheets.specs.Parts.{joined}
use Rattle.sheets.proofs.rows.are_linked.Goals as goal

pub returns : goal.returns
returns c =
    let s = c.args.sites.now in
    let h : IsTrue c.all.result ↔ ((k : ℕ) → k + 1 < length s → IsTrue (joined c.args.words.now (get_or s k 0) (get_or s (k + 1) 0))) = search (rules, chains) in
    each_is _ (length s - 1) c.all.result (λ t k l. h.0 t k (omega arith), λ f. h.1 (λ k l. f k (omega arith)))
