use Rattle.std.proofs.Common.{◌≡◌, cond, not, eqb}
use Rattle.sites.specs.Sets.{mask_of}
use Rattle.sites.specs.Lists.{front}
use Rattle.notebooks.specs.Notebooks.{told_by}
use Rattle.tables.specs.Tables.{table_network}
use Rattle.rounds.proofs.phase.Phase.zeros.Given as goal

abbrev pub invariant-loop-from : goal.invariant-loop-from
invariant-loop-from g l =
    l.bits ≡ mask_of l.from
    (λ u. not (cond (eqb u l.self.heard.table.now.site) l.self.own (told_by (table_network l.self.heard.table.now) l.self.heard.table.now.site l.self.heard.notebook.now.words (front ((g.P.Routing.network l.self.plan.now).route l.self.set.bits u l.self.heard.table.now.site)))))
