-- Networks with the same sites and edges.
use Rattle.std.proofs.Common.{◌≡◌, ℕ, ◌-◌, ◌<◌, Bool, cond, eqb, List, [], ◌∷◌, ◌++◌, length, take, drop, Some, None, ap, ◌∙◌}
use Rattle.theory.specs.Network.{Network}
use Rattle.theory.specs.Flooding.{expected, expected_up_to}
use Rattle.notebooks.specs.Floods.{flood_word}
use Rattle.notebooks.specs.Notebooks.{flood_words, note_round, round_words, owed_words, listed, place, bit_at, noted, or_one, told_by}
use Rattle.tables.specs.Wirings.{SameEdges}
use Rattle.tables.proofs.Edges.{edges_law}
use Rattle.rounds.specs.Laws.{AlikeLaw}

module _ (N M : Network) (v : ℕ) (same : SameEdges N M) (below : v < N.n) where
  level : (k : ℕ) → expected N v k ≡ expected M v k
  level k = (edges_law N M v k same below).0

  all : (k : ℕ) → expected_up_to N v k ≡ expected_up_to M v k
  all k = (edges_law N M v k same below).1

  noting_is : (r : ℕ) (hear : List ℕ → Bool) (book : List ℕ) → note_round N v r hear book ≡ note_round M v r hear book
  unfolding note_round
  noting_is r hear book =
      ap (λ (x : List (List ℕ)). take (length x) book ++ (flood_words hear (expected N v r) ++ drop (length (expected_up_to N v r)) book)) (all (r - 1))
      ∙ ap (λ (x : List (List ℕ)). take (length (expected_up_to M v (r - 1))) book ++ (flood_words hear x ++ drop (length (expected_up_to N v r)) book)) (level r)
      ∙ ap (λ (x : List (List ℕ)). take (length (expected_up_to M v (r - 1))) book ++ (flood_words hear (expected M v r) ++ drop (length x) book)) (all r)

  levels_are : (r : ℕ) (book : List ℕ) → round_words N v r book ≡ round_words M v r book
  unfolding round_words
  levels_are r book =
      ap (λ (x : List (List ℕ)). take (length x) (drop (length (expected_up_to N v (r - 1))) book)) (level r)
      ∙ ap (λ (x : List (List ℕ)). take (length (expected M v r)) (drop (length x) book)) (all (r - 1))

  owing_is : (r : ℕ) (held : Bool) (book : List ℕ) → owed_words N v r held book ≡ owed_words M v r held book
  unfolding owed_words
  owing_is r held book = ap (cond (eqb r 1) (flood_word (record { path = []; bit = held }) ∷ [])) (levels_are (r - 1) book)

  recalling_is : (r : ℕ) (book p : List ℕ) → noted N v r book p ≡ noted M v r book p
  unfolding noted
  recalling_is r book p = ap (λ (x : List (List ℕ)). cond (listed p x) (Some (bit_at book (place p x))) None) (all r)

  telling_is : (book p : List ℕ) → told_by N v book p ≡ told_by M v book p
  unfolding told_by
  telling_is book p = ap or_one (recalling_is (N.n - 1) book p ∙ ap (λ x. noted M v (x - 1) book p) same.sites)

pub alike_law : AlikeLaw
alike_law N M v same below = record {
  noting = noting_is N M v same below;
  levels = levels_are N M v same below;
  owing = owing_is N M v same below;
  recalling = recalling_is N M v same below;
  telling = telling_is N M v same below;
}
