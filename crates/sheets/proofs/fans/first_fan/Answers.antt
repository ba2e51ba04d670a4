use Rattle.std.proofs.Common.{◌-◌, eqb, length, ◌∙◌, rules}
use Rattle.words.specs.Layout.{kind_field}
use Rattle.sheets.specs.Parts.{word_at}
use Rattle.sites.proofs.Ranges.{found_number}
use Rattle.sheets.proofs.Chains.{or_length}
use Rattle.sheets.proofs.fans.first_fan.Goals as goal

pub returns : goal.returns
returns c =
    let ws = c.args.words.now in
    c.unwrap_or.ensures ∙ or_length c.find.result (length ws) _ (found_number _ _ _ (λ i. eqb (kind_field (word_at ws i)) 11) (search rules) (λ k b lo hi h. search rules) 1 (length ws - 1) c.find.result (search rules) (search rules) c.find.ensures.runs)
