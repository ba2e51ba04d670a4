use Rattle.std.proofs.Common.{arith, rules, ℕ, ◌<◌, ◌↔◌, ◌&&◌, IsTrue, length, get_or}
use Rattle.std.proofs.lemmas.Bool.Decides.{nat_tests}
use Rattle.std.proofs.iter.runs.Made.{chains}
use Rattle.sites.specs.Sets.{in_set}
use Rattle.sites.proofs.Positions.{each_is}
use Rattle.sheets.specs.Parts.{source, avoids}
use Rattle.plans.proofs.places.is_serving.Goals as goal

pub returns-then-end_of-at : goal.returns-then-end_of-at
returns-then-end_of-at c =
    let run = c.args.run.now in
    let h : IsTrue c.all.result ↔ ((k : ℕ) → k < length run → IsTrue (in_set c.args.among.bits (source (get_or run k 0)) && avoids c.args.set.bits (get_or run k 0))) = search (rules, chains) in
    let e = each_is (λ k. in_set c.args.among.bits (source (get_or run k 0)) && avoids c.args.set.bits (get_or run k 0)) (length run) c.all.result h in
    grind (arith, nat_tests, e)
