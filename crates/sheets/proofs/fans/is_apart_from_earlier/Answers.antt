use Rattle.std.proofs.Common.{ℕ, ◌<◌, length, get_or, IsTrue, ◌↔◌, rules}
use Rattle.std.proofs.iter.runs.Made.{chains}
use Rattle.sites.proofs.Positions.{each_is}
use Rattle.sheets.specs.Parts.{apart}
use Rattle.sheets.proofs.fans.is_apart_from_earlier.Goals as goal

pub returns : goal.returns
returns c =
    let s = c.args.earlier.now in
    let h : IsTrue c.all.result ↔ ((k : ℕ) → k < length s → IsTrue (apart (get_or s k 0) c.args.word)) = search (rules, chains) in
    each_is _ (length s) c.all.result h
