use Rattle.std.proofs.Common.{rules, ◌≡◌, take, is_ok, ap, ◌∙◌, arith}
use Rattle.plans.specs.Examples.{pair}
use Rattle.plans.specs.Sheets.{complete?}
use Rattle.plans.proofs.Examples.{sheet_examples}
use Rattle.plans.proofs.plan.Plan.built_in.Goals as goal

pub invariant_of-result : goal.invariant_of-result
invariant_of-result c =
    let same : take 6 c.copied.result ≡ pair = search rules in
    record { long = c.copied.ensures.long; within = omega arith; whole = ap complete? same ∙ ap is_ok sheet_examples.pair_passes }
