-- The examples, by computation.
use Rattle.std.proofs.Common.{refl}
use lib.Count.{ones}
use Rattle.sites.specs.Keepers.{keepers}
use Rattle.sites.specs.Suspects.{sized, suspects}
use Rattle.plans.specs.Examples.{SheetExamples}

pub sheet_examples : SheetExamples
unfolding ones keepers sized suspects
sheet_examples = record {
  pair_passes = refl;
  triangle_passes = refl;
  short_fan = refl;
  no_fan = refl;
  no_route = refl;
  edges_exchanged = refl;
  nothing = refl;
}
