use Rattle.std.proofs.Common.{ℕ, List, Option, sym, ap, ◌∙◌}
use Rattle.std.proofs.lemmas.Result.{err_from_is_err_and}
use Rattle.tables.specs.Tables.{table_network}
use Rattle.rounds.specs.Recalling.{or_unheard, recall_of}
use Rattle.rounds.proofs.notebook.Notebook.recalled.Goals as goal

pub returns : goal.returns
returns c =
    let t = c.args.table.now in
    c.or_refused.ensures ∙ ap or_unheard c.noted.ensures
    ∙ ap (λ (o : Option (List ℕ)). recall_of (table_network t) t.site c.args.rounds c.args.self.now.words o) (sym c.in_ok-path.ensures)

pub returns-in_err-path : goal.returns-in_err-path
returns-in_err-path c =
    let t = c.args.table.now in
    let q = err_from_is_err_and c.from_residual.result c.from_residual.ensures.1 in
    let a = c.in_err-path.ensures in
    rw (q.1, q.2, a.1) (ap (λ (o : Option (List ℕ)). recall_of (table_network t) t.site c.args.rounds c.args.self.now.words o) (sym a.0))
