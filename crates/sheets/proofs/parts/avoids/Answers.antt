use Rattle.std.proofs.Common.{◌-◌, not, length, rules}
use Rattle.sites.specs.Sets.{in_set}
use Rattle.words.specs.Layout.{path_field}
use Rattle.sheets.specs.Parts.{site_at}
use Rattle.sites.proofs.Ranges.{all_numbers}
use Rattle.sheets.proofs.parts.avoids.Goals as goal

pub returns : goal.returns
returns c = all_numbers _ _ _ (λ i. not (in_set c.args.set.bits (site_at c.args.word i))) (search rules) (λ k b lo hi h. search rules) 1 (length (path_field c.args.word) - 2) c.all.result (search rules) (search rules) c.all.ensures.runs
