use Rattle.std.proofs.Common.{◌≡◌, ℕ, ◌+◌, ◌-◌, ◌^◌, ◌<◌, cond, map, length, get_or, sym, ap, ◌∙◌, arith, rules}
use Rattle.std.proofs.lemmas.List.{length-map}
use Rattle.tables.specs.Entries.{entry_of, no_entry}
use Rattle.tables.specs.Tables.{table_network, table_paths}
use Rattle.notebooks.specs.Notebooks.{owed_by_bits, noted_round, bit_at}
use Rattle.rounds.proofs.Notes.{hearable}
use Rattle.rounds.proofs.Spoken.{round_length, round_word}
use Rattle.rounds.proofs.notebook.Notebook.speak_by_bits.Goals as goal

pub put_owed-requires : goal.put_owed-requires
put_owed-requires g c = λ k lt.
    let t = c.args.table.now in
    let es = c.up_to-paths.result.now in
    let all : length es ≡ length (table_paths t (c.args.round - 1)) =
    ap length c.up_to-paths.ensures ∙ length-map (table_paths t c.saturating_sub.result) entry_of ∙ ap (λ (x : ℕ). length (table_paths t x)) c.saturating_sub.ensures in
    let below : k < length es = omega arith in
    let low : (get_or es k no_entry).word < 2 ^ 32 - 1 = (hearable t c.saturating_sub.result es k c.up_to-paths.ensures below).low_word in
    search rules

pub returns-clause-answer : goal.returns-clause-answer
unfolding owed_by_bits
returns-clause-answer g c =
    let t = c.args.table.now in
    let book = c.args.self.now.words in
    c.put_owed.ensures.answer (noted_round (table_network t) t.site (c.args.round - 1) book) (round_length t (c.args.round - 1) book)

pub returns-clause-after : goal.returns-clause-after
unfolding owed_by_bits
returns-clause-after g c =
    let t = c.args.table.now in
    let book = c.args.self.now.words in
    let r : ℕ = c.args.round - 1 in
    let es = c.up_to-paths.result.now in
    let first : ℕ = length (table_paths t (r - 1)) in
    let listed : es ≡ map entry_of (table_paths t r) = c.up_to-paths.ensures ∙ ap (λ (x : ℕ). map entry_of (table_paths t x)) c.saturating_sub.ensures in
    c.put_owed.ensures.after (noted_round (table_network t) t.site r book) (round_length t r book)
    (λ k w lt p.
    let is : w ≡ cond (bit_at book (first + k)) ((get_or es (first + k) no_entry).word + 1) (get_or es (first + k) no_entry).word = search rules in
    is ∙ sym (round_word t r book es k listed lt))
