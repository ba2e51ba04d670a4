use Rattle.std.proofs.Common.{◌≤◌, arith}
use Rattle.tables.proofs.TableFacts.{counts_rise}
use Rattle.rounds.proofs.Notes.{round_part}
use Rattle.rounds.proofs.notebook.Notebook.round_words.Goals as goal

pub slice_bounds-result-count : goal.slice_bounds-result-count
slice_bounds-result-count c = omega (arith, counts_rise c.args.table.now c.args.k, c.first_of_round.ensures.value, c.count.ensures.value)

pub slice_bounds-result-start : goal.slice_bounds-result-start
slice_bounds-result-start c =
    let h : c.first_of_round.result ≤ c.count.result = omega (arith, counts_rise c.args.table.now c.args.k, c.first_of_round.ensures.value, c.count.ensures.value) in
    h

pub returns : goal.returns
returns c =
    round_part c.args.table.now c.args.k c.args.self.now.words c.first_of_round.result c.count.result c.first_of_round.ensures.value c.count.ensures.value
