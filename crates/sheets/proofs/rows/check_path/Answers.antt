use Rattle.std.proofs.Common.{sym, ap, ◌∙◌, arith}
use Rattle.words.specs.Words.{meaning_of, sites_of}
use Rattle.sheets.specs.Parts.{word_at}
use Rattle.sheets.specs.Steps.{wired}
use Rattle.sheets.proofs.Steps.{path_tested, path_passes, path_fails}
use Rattle.sheets.proofs.rows.check_path.Goals as goal

pub returns-then-not-are_wired : goal.returns-then-not-are_wired
returns-then-not-are_wired c =
    let ws = c.args.words.now in
    let t = path_tested ws (word_at ws c.args.i) (meaning_of c.in_ok-path_at.field-0) c.in_ok-path_at.ensures in
    let s = ap (wired ws) (c.sites.ensures ∙ ap sites_of c.path-path.ensures) in
    path_fails ws c.args.i (omega arith) (t ∙ sym s ∙ sym c.are_wired.ensures ∙ c.if-not-are_wired.true)

pub returns : goal.returns
returns c =
    let ws = c.args.words.now in
    let t = path_tested ws (word_at ws c.args.i) (meaning_of c.in_ok-path_at.field-0) c.in_ok-path_at.ensures in
    let s = ap (wired ws) (c.sites.ensures ∙ ap sites_of c.path-path.ensures) in
    path_passes ws c.args.i (t ∙ sym s ∙ sym c.are_wired.ensures ∙ c.if-not-are_wired.false)
