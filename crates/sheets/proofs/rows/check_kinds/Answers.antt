use Rattle.std.proofs.Common.{◌-◌, length, ap, ◌∙◌, rules}
use Rattle.sites.specs.declared.refusal.Refusal.TheVariants.{Kind}
use Rattle.sheets.specs.Rows.{bad_kind}
use Rattle.sheets.specs.Refusals.{told}
use Rattle.sites.proofs.Ranges.{found_number}
use Rattle.sheets.proofs.rows.check_kinds.Goals as goal

pub returns : goal.returns
returns c = c.told.ensures ∙ ap (told Kind) (found_number _ _ _ (bad_kind c.args.words.now) (search rules) (λ k b lo hi h. search rules) 1 (length c.args.words.now - 1) c.find-found.result (search rules) (search rules) c.find-found.ensures.runs)
