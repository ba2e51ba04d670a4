use Rattle.std.proofs.Common.{◌-◌, not, eqb, length, rules}
use Rattle.words.specs.Layout.{path_field}
use Rattle.sheets.specs.Parts.{site_at}
use Rattle.sites.proofs.Ranges.{all_numbers}
use Rattle.sheets.proofs.fans.is_off.Goals as goal

pub returns : goal.returns
returns c = all_numbers _ _ _ (λ j. not (eqb (site_at c.args.v c.args.i) (site_at c.args.w j))) (search rules) (λ k b lo hi h. search rules) 0 (length (path_field c.args.w) - 1) c.all.result (search rules) (search rules) c.all.ensures.runs
