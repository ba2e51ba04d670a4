-- The examples, computed.
use Rattle.std.proofs.Common.{◌≡◌, true, refl}
use lib.Count.{ones, ones_in}
use Rattle.sites.specs.Sets.{mask_of}
use Rattle.sites.specs.Suspects.{sized, suspects}
use Rattle.sites.specs.Keepers.{keepers}
use Rattle.theory.specs.Flooding.{first_bit, heard, longer, paths, expected}
use Rattle.theory.specs.Weighing.{zeros, agreed, weigh}
use Rattle.theory.specs.Runs.{suspect, held, owed, holds, owes, history, play}
use Rattle.theory.specs.Complete.{way?, fan?, routes?, fans?, complete?}
use Rattle.theory.specs.Examples.{triangle, pair, TriangleAndPair, Table}
use Rattle.theory.proofs.Complete.{complete_law}

triangle_complete : complete? triangle ≡ true
unfolding complete? routes? fans? way? fan? keepers suspects sized ones ones_in
triangle_complete = refl

pair_complete : complete? pair ≡ true
unfolding complete? routes? fans? way? fan? keepers suspects sized ones ones_in
pair_complete = refl

pub triangle_and_pair : TriangleAndPair
unfolding holds play history owes owed expected paths longer held weigh zeros keepers mask_of heard first_bit agreed suspect suspects sized ones ones_in
triangle_and_pair = record {
  triangle_lawful = complete_law triangle triangle_complete;
  pair_lawful = complete_law pair pair_complete;
  one = (refl, refl);
  one_at_last = (refl, refl);
  zero_first = (refl, refl);
  silence = (refl, refl);
  pair_one = (refl, refl);
}

pub table : Table
unfolding keepers ones ones_in
table = record { few_zeros_suspected = refl; few_ones_left = refl; zeros_suspected = refl; few_zeros_left = refl }
