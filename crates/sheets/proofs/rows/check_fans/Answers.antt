use Rattle.std.proofs.Common.{◌-◌, length, ap, ◌∙◌, rules}
use Rattle.sites.specs.declared.refusal.Refusal.TheVariants.{Fan}
use Rattle.sheets.specs.Rows.{bad_fan}
use Rattle.sheets.specs.Refusals.{told}
use Rattle.sites.proofs.Ranges.{found_number}
use Rattle.sheets.proofs.rows.check_fans.Goals as goal

pub returns : goal.returns
returns c = c.told.ensures ∙ ap (told Fan) (found_number _ _ _ (bad_fan c.args.words.now) (search rules) (λ k b lo hi h. search rules) 1 (length c.args.words.now - 1) c.find-found.result (search rules) (search rules) c.find-found.ensures.runs)
