use Rattle.std.proofs.Common.{rules}
use Rattle.std.proofs.lemmas.Slice.{overwrites}
use Rattle.std.proofs.lemmas.List.{places}
use Rattle.plans.proofs.plans.copied.Goals as goal

pub returns : goal.returns
returns c = record { front = search (rules, overwrites); long = search (rules, places) }
