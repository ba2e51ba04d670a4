use Rattle.std.proofs.Common.{◌≡◌, ◌&&◌, eqb, length, take, get_or, ap, ◌∙◌, rules, arith}
use Rattle.sites.specs.Positions.{all_from}
use Rattle.sites.proofs.Ranges.{all_numbers}
use Rattle.sheets.specs.Parts.{end, apart, joins_fan}
use Rattle.sheets.proofs.Chains.{of_earlier}
use Rattle.sheets.proofs.fans.is_fan.Goals as goal

pub returns : goal.returns
returns c = all_numbers _ _ _ (joins_fan c.args.run.now) (search rules) (λ k b lo hi h.
    let s = c.args.run.now in
    let e : b ≡ (eqb (end (get_or s k 0)) (end (get_or s 0 0)) && all_from (λ j. apart (get_or (take k s) j 0) (get_or s k 0)) 0 (length (take k s))) = search rules in
    e ∙ ap (λ r. eqb (end (get_or s k 0)) (end (get_or s 0 0)) && r) (of_earlier (λ v. apart v (get_or s k 0)) k s (omega arith))) 0 (length c.args.run.now) c.all.result (search rules) (search rules) c.all.ensures.runs
