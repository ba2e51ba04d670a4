-- What is read by a table that fits a site is what the network has for it.
use Rattle.std.proofs.Common.{◌≡◌, ℕ, zero, suc, ◌-◌, ◌<◌, Bool, cond, eqb, List, [], ◌∷◌, ◌++◌, length, take, drop, Some, None, refl, ap, ◌∙◌}
use mathlib.Core.Path.{fun_ext}
use Rattle.theory.specs.Network.{Network}
use Rattle.theory.specs.Flooding.{expected, expected_up_to}
use Rattle.notebooks.specs.Floods.{flood_word}
use Rattle.notebooks.specs.Notebooks.{flood_words, note_round, round_words, owed_words, noted_words, noted_round, owed_by_bits, listed, place, bit_at, or_one, noted, told_by}
use Rattle.tables.specs.Tables.{table_network, table_level, table_paths}
use Rattle.tables.specs.declared.table.PathTable.{PathTable}
use Rattle.site_plans.specs.Tables.{Fits}

module _ (N : Network) (s : ℕ) (t : PathTable) (fits : Fits N s t) (below : s < N.n) where
  up_to : (k : ℕ) → table_paths t k ≡ expected_up_to N s k
  unfolding expected_up_to
  up_to zero = refl
  up_to (suc k) = let a = up_to k in let b = fits.levels below (suc k) in cc

  round_fits : (k : ℕ) (book : List ℕ) → noted_round (table_network t) t.site k book ≡ noted_round N s k book
  unfolding noted_round
  round_fits k book =
      ap (noted_words book (length (table_paths t (k - 1)))) (fits.levels below k)
      ∙ ap (λ (l : List (List ℕ)). noted_words book (length l) (expected N s k)) (up_to (k - 1))

  words_fit : (k : ℕ) (book : List ℕ) → round_words (table_network t) t.site k book ≡ round_words N s k book
  unfolding round_words
  words_fit k book =
      ap (λ (l : List (List ℕ)). take (length l) (drop (length (table_paths t (k - 1))) book)) (fits.levels below k)
      ∙ ap (λ (l : List (List ℕ)). take (length (expected N s k)) (drop (length l) book)) (up_to (k - 1))

  pub owed_words_fit : (r : ℕ) (held : Bool) (book : List ℕ) → owed_words (table_network t) t.site r held book ≡ owed_words N s r held book
  unfolding owed_words
  owed_words_fit r held book = ap (λ (l : List ℕ). cond (eqb r 1) (flood_word (record { path = []; bit = held }) ∷ []) l) (words_fit (r - 1) book)

  pub owed_fits : (r : ℕ) (held : Bool) (book : List ℕ) → owed_by_bits (table_network t) t.site r held book ≡ owed_by_bits N s r held book
  unfolding owed_by_bits
  owed_fits r held book = ap (λ (l : List ℕ). cond (eqb r 1) (flood_word (record { path = []; bit = held }) ∷ []) l) (round_fits (r - 1) book)

  pub note_fits : (r : ℕ) (hear : List ℕ → Bool) (book : List ℕ) → note_round (table_network t) t.site r hear book ≡ note_round N s r hear book
  unfolding note_round
  note_fits r hear book =
      ap (λ (l : List (List ℕ)). take (length l) book ++ (flood_words hear (table_level t r) ++ drop (length (table_paths t r)) book)) (up_to (r - 1))
      ∙ ap (λ (l : List (List ℕ)). take (length (expected_up_to N s (r - 1))) book ++ (flood_words hear l ++ drop (length (table_paths t r)) book)) (fits.levels below r)
      ∙ ap (λ (l : List (List ℕ)). take (length (expected_up_to N s (r - 1))) book ++ (flood_words hear (expected N s r) ++ drop (length l) book)) (up_to r)

  pub noted_fits : (r : ℕ) (book p : List ℕ) → noted (table_network t) t.site r book p ≡ noted N s r book p
  unfolding noted
  noted_fits r book p = ap (λ (l : List (List ℕ)). cond (listed p l) (Some (bit_at book (place p l))) None) (up_to r)

  pub told_fits : (book : List ℕ) → told_by (table_network t) t.site book ≡ told_by N s book
  unfolding told_by
  told_fits book = fun_ext (λ p.
      ap (λ (m : ℕ). or_one (noted (table_network t) t.site (m - 1) book p)) fits.count
      ∙ ap or_one (noted_fits (N.n - 1) book p))
