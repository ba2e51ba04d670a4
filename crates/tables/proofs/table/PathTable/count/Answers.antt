use Rattle.std.proofs.Common.{◌≡◌, length, get_or, arith}
use Rattle.tables.specs.Tables.{table_paths}
use Rattle.tables.proofs.TableFacts.{count_at, few}
use Rattle.tables.proofs.table.PathTable.count.Goals as goal

pub returns : goal.returns
returns c =
    let t = c.args.self.now in
    let e : get_or t.ends c.min.result 0 ≡ length (table_paths t c.args.k) = count_at t c.args.k c.min.result (λ h. omega (arith, c.min.ensures)) (λ h. omega (arith, c.min.ensures)) in
    record { value = e; most = omega (arith, few t c.args.k) }
