use Rattle.std.proofs.Common.{rules, ℕ, ◌<◌, length, take, get_or, IsTrue, ◌↔◌, Contains}
use Rattle.std.proofs.iter.runs.Made.{chains}
use Rattle.words.proofs.Codec.{different}
use Rattle.words.proofs.paths.are_different.Goals as goal

pub returns : goal.returns
returns c =
    let s = c.args.sites.now in
    let h : IsTrue c.all.result ↔ ((k : ℕ) → k < length s → (get_or s k 0 < 6) × (Contains (take k s) (get_or s k 0) → ⊥)) = search (rules, chains) in
    different s c.all.result h
