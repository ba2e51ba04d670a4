-- The words that are put for a level, one by one.
use Rattle.std.proofs.Common.{◌≡◌, ℕ, zero, suc, ◌+◌, ◌-◌, ◌<◌, ◌≤◌, cond, List, [], ◌∷◌, map, length, get_or, drop, sym, refl, ap, ◌∙◌, arith}
use Rattle.std.proofs.lemmas.List.{get_or-drop, get_or-take, length-drop, length-take-le, length-map}
use Rattle.notebooks.specs.Notebooks.{bit_at, noted_words, noted_round, round_words}
use Rattle.notebooks.proofs.Bits.{length_noted}
use Rattle.tables.specs.Entries.{entry_of, no_entry}
use Rattle.tables.specs.Tables.{table_network, table_level, table_paths}
use Rattle.tables.specs.declared.expected_path.ExpectedPath.{ExpectedPath}
use Rattle.tables.specs.declared.table.PathTable.{PathTable}
use Rattle.tables.proofs.TableFacts.{counts_rise, few}
use Rattle.rounds.proofs.Notes.{with_bit, level_entries}

-- the word of an entry with the bit noted at a place
abbrev pub entry_word : List ℕ → ℕ → ExpectedPath → ℕ
entry_word book i e = cond (bit_at book i) (e.word + 1) e.word

abbrev entry_words : List ℕ → ℕ → List ExpectedPath → List ℕ
entry_words book i [] = []
entry_words book i (e ∷ es) = entry_word book i e ∷ entry_words book (i + 1) es

entry_words_are : (book : List ℕ) (i : ℕ) (ps : List (List ℕ)) → entry_words book i (map entry_of ps) ≡ noted_words book i ps
entry_words_are book i [] = refl
entry_words_are book i (p ∷ ps) = let a = with_bit p (bit_at book i) in let b = entry_words_are book (i + 1) ps in cc

entry_word_at : (book : List ℕ) (i j : ℕ) (es : List ExpectedPath) → j < length es → get_or (entry_words book i es) j 0 ≡ entry_word book (i + j) (get_or es j no_entry)
entry_word_at book i j [] l = absurd (omega arith)
entry_word_at book i zero (e ∷ es) l = let z : i ≡ i + 0 = omega arith in ap (λ k. entry_word book k e) z
entry_word_at book i (suc j) (e ∷ es) l =
    let z : (i + 1) + j ≡ i + suc j = omega arith in
    entry_word_at book (i + 1) j es (omega arith) ∙ ap (λ k. entry_word book k (get_or es j no_entry)) z

module _ (t : PathTable) (r : ℕ) (book : List ℕ) where
  pub round_length : length (noted_round (table_network t) t.site r book) ≡ length (table_level t r)
  unfolding noted_round
  round_length = length_noted book (length (table_paths t (r - 1))) (table_level t r)

  -- the word for the path at place k of the level
  pub round_word : (es : List ExpectedPath) (k : ℕ) → es ≡ map entry_of (table_paths t r) → k < length (noted_round (table_network t) t.site r book) →
      get_or (noted_round (table_network t) t.site r book) k 0 ≡ entry_word book (length (table_paths t (r - 1)) + k) (get_or es (length (table_paths t (r - 1)) + k) no_entry)
  unfolding noted_round
  round_word es k is below =
      let start : ℕ = length (table_paths t (r - 1)) in
      let rest = level_entries t r es start is refl in
      let all : length es ≡ length (table_paths t r) = ap length is ∙ length-map (table_paths t r) entry_of in
      let long : k < length (drop start es) = omega (arith, length-drop start es, round_length, counts_rise t r, below) in
      ap (λ (ws : List ℕ). get_or ws k 0) (sym (ap (entry_words book start) rest ∙ entry_words_are book start (table_level t r)))
      ∙ entry_word_at book start k (drop start es) long
      ∙ ap (entry_word book (start + k)) (get_or-drop start es k no_entry)

  -- ---- the words noted, as they stand

  pub words_length : length book ≡ 325 → length (round_words (table_network t) t.site r book) ≡ length (table_level t r)
  unfolding round_words
  words_length long =
      let start : ℕ = length (table_paths t (r - 1)) in
      let fits : length (table_level t r) ≤ length (drop start book) = omega (arith, length-drop start book, counts_rise t r, few t r) in
      length-take-le (length (table_level t r)) (drop start book) fits

  pub word_at : (k : ℕ) → k < length (table_level t r) → get_or (round_words (table_network t) t.site r book) k 0 ≡ get_or book (length (table_paths t (r - 1)) + k) 0
  unfolding round_words
  word_at k below =
      let start : ℕ = length (table_paths t (r - 1)) in
      get_or-take (length (table_level t r)) (drop start book) k 0 below ∙ get_or-drop start book k 0
