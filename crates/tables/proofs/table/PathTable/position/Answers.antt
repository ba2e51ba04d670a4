use Rattle.std.proofs.Common.{◌∙◌}
use Rattle.words.specs.declared.kind.Kind.TheVariants.{Flood}
use Rattle.words.specs.Words.{Meaning, sites_of, meaning_of}
use Rattle.tables.specs.Tables.{table_paths}
use Rattle.tables.proofs.Found.{found_by_word, no_word, made, not_made}
use Rattle.tables.proofs.TableFacts.{table_carried}
use Rattle.tables.proofs.table.PathTable.position.Goals as goal

pub returns-in_err-flood : goal.returns-in_err-flood
returns-in_err-flood c =
    let t = c.args.self.now in
    let p = c.args.path.now in
    let m : Meaning = record { kind = Flood; sites = sites_of p; tail = 0 } in
    rw c.from_residual.ensures (no_word (sites_of p) (table_paths t c.args.k) p.lawful (not_made m c.new.result c.new.ensures c.in_err-flood.ensures.value) (table_carried t c.args.k))

pub returns : goal.returns
returns c =
    let t = c.args.self.now in
    let p = c.args.path.now in
    let m = made _ c.new.result c.in_ok-flood.flood c.new.ensures c.in_ok-flood.ensures.value in
    c.find.ensures
    ∙ found_by_word c.write.result (meaning_of c.in_ok-flood.flood) (sites_of p) (table_paths t c.args.k) m.1 m.0 c.write.ensures.value
    c.up_to.result.now c.up_to.ensures (table_carried t c.args.k)
