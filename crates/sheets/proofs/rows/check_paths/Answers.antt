use Rattle.std.proofs.Common.{length, sym, ap, ◌∙◌, arith}
use Rattle.std.proofs.lemmas.Result.{err_from_is_err_and}
use Rattle.sites.specs.declared.refusal.Refusal.TheVariants.{Path}
use Rattle.sites.proofs.Positions.{first_miss}
use Rattle.sheets.specs.Rows.{bad_path}
use Rattle.sheets.specs.Refusals.{told}
use Rattle.sheets.proofs.Steps.{told_stop, told_on}
use Rattle.sheets.proofs.rows.check_paths.Goals as goal

pub returns-in_err-check_path : goal.returns-in_err-check_path
returns-in_err-check_path c =
    let ws = c.args.words.now in
    let p = err_from_is_err_and c.from_residual.result c.from_residual.ensures.1 in
    rw (p.1, p.2) (told_stop Path (bad_path ws) c.loop-i.i (length ws) _ (omega arith) c.in_err-check_path.ensures ∙ ap (told Path) c.loop-i.invariant)

pub loop-i-preserved : goal.loop-i-preserved
loop-i-preserved c =
    let ws = c.args.words.now in
    let h = told_on Path (bad_path ws) c.loop-i.i c.in_ok-check_path.ensures in
    sym (first_miss (bad_path ws) c.loop-i.i (length ws) (omega arith) h) ∙ c.loop-i.invariant
