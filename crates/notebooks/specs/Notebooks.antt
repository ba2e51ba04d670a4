-- A notebook: a flood word for each expected path that was heard, by length, then ascending; zeros behind them.
use Rattle.std.specs.Prelude.{ℕ, suc, ◌+◌, ◌-◌, ◌%◌, Bool, true, false, cond, ◌||◌, List, [], ◌∷◌, ◌++◌, map, length, take, drop, replicate, Some, None, Option, ◌==◌, slice_index}
use Rattle.sites.specs.Lists.{same_path}
use Rattle.theory.specs.Network.{Network}
use Rattle.theory.specs.Flooding.{expected, expected_up_to, words_for}
use Rattle.notebooks.specs.Floods.{flood_word}

-- how many words a notebook has
abbrev pub pages : ℕ
pages = 325

-- a notebook in which nothing was noted
abbrev pub empty_book : List ℕ
empty_book = replicate pages 0

-- some words, and zeros behind them up to the end of the notebook
abbrev pub filled : List ℕ → List ℕ
filled ws = ws ++ replicate (pages - length ws) 0

-- a flood word for each of some paths, with the bit that hear tells of it
unfoldable pub flood_words : (List ℕ → Bool) → List (List ℕ) → List ℕ
flood_words hear paths = map flood_word (words_for hear paths)

-- the notebook of v that has what hear tells of the paths of at most r sites, and nothing else
unfoldable pub shown : Network → ℕ → ℕ → (List ℕ → Bool) → List ℕ
shown N v r hear = filled (flood_words hear (expected_up_to N v r))

-- the place of the first path of r sites: how many shorter ones there are
abbrev pub first_place : Network → ℕ → ℕ → ℕ
first_place N v r = length (expected_up_to N v (r - 1))

-- a notebook of v after the paths of r sites were heard: their words stand behind those of the shorter paths, and what is noted elsewhere stays
unfoldable pub note_round : Network → ℕ → ℕ → (List ℕ → Bool) → List ℕ → List ℕ
note_round N v r hear book = take (first_place N v r) book ++ (flood_words hear (expected N v r) ++ drop (length (expected_up_to N v r)) book)

-- the words of the paths of r sites in a notebook of v
unfoldable pub round_words : Network → ℕ → ℕ → List ℕ → List ℕ
round_words N v r book = take (length (expected N v r)) (drop (first_place N v r) book)

-- what v puts in round r, counted from 1: in round 1 the empty path with the bit that it holds, later what it noted along the paths of r - 1 sites
unfoldable pub owed_words : Network → ℕ → ℕ → Bool → List ℕ → List ℕ
owed_words N v r held book = cond (r == 1) (flood_word (record { path = []; bit = held }) ∷ []) (round_words N v (r - 1) book)

-- whether a path is among some
abbrev pub listed : List ℕ → List (List ℕ) → Bool
listed p [] = false
listed p (q ∷ qs) = same_path q p || listed p qs

-- the place of a path among some: how many stand before it
abbrev pub place : List ℕ → List (List ℕ) → ℕ
place p [] = 0
place p (q ∷ qs) = cond (same_path q p) 0 (suc (place p qs))

-- the bit noted at a place: the last bit of the word that stands there
abbrev pub bit_at : List ℕ → ℕ → Bool
bit_at book i = slice_index book i % 2 == 1

-- The bit noted for a path in a notebook of v, when r rounds of a phase were heard: nothing for a path that is not expected, or is heard only in a later round.
-- The place tells the path, and the rounds whether it was heard; no more of a word than its bit counts.
unfoldable pub noted : Network → ℕ → ℕ → List ℕ → List ℕ → Option Bool
noted N v r book p = cond (listed p (expected_up_to N v r)) (Some (bit_at book (place p (expected_up_to N v r)))) None

-- a bit, or 1 where there is none
abbrev pub or_one : Option Bool → Bool
or_one (Some b) = b
or_one None = true

-- what a notebook of v tells of a path when all rounds of a phase were heard
unfoldable pub told_by : Network → ℕ → List ℕ → List ℕ → Bool
told_by N v book p = or_one (noted N v (N.n - 1) book p)

-- ---- a notebook whose words count by their bits alone, as one that a host keeps

-- a notebook of v after round r of a phase was heard: the first round begins with an empty one
abbrev pub take_round : Network → ℕ → ℕ → (List ℕ → Bool) → List ℕ → List ℕ
take_round N v r hear book = note_round N v r hear (cond (r == 1) empty_book book)

-- a flood word for each of some paths, with the bits noted from a place on
abbrev pub noted_words : List ℕ → ℕ → List (List ℕ) → List ℕ
noted_words book i [] = []
noted_words book i (p ∷ ps) = flood_word (record { path = p; bit = bit_at book i }) ∷ noted_words book (i + 1) ps

-- a flood word for each path of r sites, with the bit that a notebook of v has at its place
unfoldable pub noted_round : Network → ℕ → ℕ → List ℕ → List ℕ
noted_round N v r book = noted_words book (first_place N v r) (expected N v r)

-- what v puts in round r, counted from 1, by the bits of its notebook: in round 1 the empty path with the bit that it holds, later a word for each path of r - 1 sites
unfoldable pub owed_by_bits : Network → ℕ → ℕ → Bool → List ℕ → List ℕ
owed_by_bits N v r held book = cond (r == 1) (flood_word (record { path = []; bit = held }) ∷ []) (noted_round N v (r - 1) book)
