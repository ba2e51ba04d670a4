-- The examples, computed.
use Rattle.std.proofs.Common.{refl}
use lib.Count.{ones, ones_in}
use Rattle.sites.specs.Sets.{mask_of}
use Rattle.sites.specs.Suspects.{sized, suspects}
use Rattle.sites.specs.Keepers.{keepers}
use Rattle.theory.specs.Flooding.{first_bit, longer, paths, expected, expected_up_to}
use Rattle.theory.specs.Weighing.{zeros, agreed, weigh}
use Rattle.theory.specs.Runs.{suspect}
use Rattle.notebooks.specs.Floods.{flood_word, flood_in, floods, heard_in}
use Rattle.notebooks.specs.Notebooks.{flood_words, note_round, round_words, owed_words, noted, told_by}
use Rattle.runs.specs.Replies.{noting, weighed}
use Rattle.runs.specs.Examples.{Examples}

pub examples : Examples
unfolding ones ones_in mask_of sized suspects keepers first_bit longer paths expected expected_up_to zeros agreed weigh suspect flood_word flood_in floods heard_in flood_words note_round round_words owed_words noted told_by noting weighed
examples = record {
  one_held = (refl, refl);
  turn_eight_decides = (refl, refl);
  not_turn_seven = refl;
  no_ninth_turn = refl;
  zero_held = (refl, refl);
  pair_decides = (refl, refl);
}
