use Rattle.std.proofs.Common.{◌≡◌, ◌-◌, Bool, Option, true, unwrap_or, Some, None, refl, ap, ◌∙◌, arith}
use Rattle.words.specs.Words.{sites_of}
use Rattle.notebooks.specs.Notebooks.{noted, or_one, told_by}
use Rattle.tables.specs.Tables.{table_network}
use Rattle.rounds.proofs.notebook.Notebook.told.Goals as goal

as_one : (o : Option Bool) → unwrap_or o true ≡ or_one o
as_one (Some b) = refl
as_one None = refl

pub returns : goal.returns
unfolding told_by
returns c =
    let t = c.args.table.now in
    let p = sites_of c.args.path.now in
    let book = c.args.self.now.words in
    let r : c.saturating_sub-rounds.result ≡ t.wiring.n - 1 = omega (arith, c.saturating_sub-rounds.ensures, c.site_count.ensures.value) in
    c.unwrap_or.ensures ∙ as_one c.noted.result ∙ ap or_one (c.noted.ensures ∙ ap (λ x. noted (table_network t) t.site x book p) r)
