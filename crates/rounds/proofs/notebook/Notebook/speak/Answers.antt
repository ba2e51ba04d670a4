use Rattle.std.proofs.Common.{◌≡◌, ◌+◌, ◌-◌, ◌<◌, length, get_or, sym, ◌∙◌, arith, rules}
use Rattle.tables.specs.Tables.{table_network, table_paths}
use Rattle.tables.proofs.TableFacts.{few}
use Rattle.notebooks.specs.Notebooks.{owed_words, round_words}
use Rattle.rounds.proofs.Spoken.{words_length, word_at}
use Rattle.rounds.proofs.notebook.Notebook.speak.Goals as goal

pub put_owed-requires : goal.put_owed-requires
put_owed-requires g c = λ k lt.
    let below : k < 325 = omega (arith, few c.args.table.now (c.args.round - 1)) in
    let long : length c.args.self.now.words ≡ 325 = c.args.self.now.long in
    search rules

pub returns-clause-answer : goal.returns-clause-answer
unfolding owed_words
returns-clause-answer g c =
    let t = c.args.table.now in
    let book = c.args.self.now.words in
    c.put_owed.ensures.answer (round_words (table_network t) t.site (c.args.round - 1) book) (words_length t (c.args.round - 1) book c.args.self.now.long)

pub returns-clause-after : goal.returns-clause-after
unfolding owed_words
returns-clause-after g c =
    let t = c.args.table.now in
    let book = c.args.self.now.words in
    let long = words_length t (c.args.round - 1) book c.args.self.now.long in
    c.put_owed.ensures.after (round_words (table_network t) t.site (c.args.round - 1) book) long
    (λ k w lt p.
    let is : w ≡ get_or book (length (table_paths t (c.args.round - 1 - 1)) + k) 0 = search rules in
    is ∙ sym (word_at t (c.args.round - 1) book k (omega arith)))
