use Rattle.std.proofs.Common.{take, ap, ◌∙◌}
use Rattle.tables.proofs.TableFacts.{front_paths}
use Rattle.tables.proofs.table.PathTable.up_to.Goals as goal

pub returns : goal.returns
returns c =
    let t = c.args.self.now in
    c.first_entries.ensures ∙ ap (λ x. take x t.entries) c.count.ensures.value ∙ front_paths t c.args.k
