-- Flood words: a path and the bit that came along it, as a word on the air.
use Rattle.std.specs.Prelude.{ℕ, ◌+◌, Bool, true, false, cond, List, [], ◌∷◌, Some, None, Option, ◌==◌}
use Rattle.sites.specs.Lists.{front, final}
use Rattle.words.specs.declared.kind.Kind.{Kind}
use Rattle.words.specs.declared.kind.Kind.TheVariants.{Flood, Route, Fan}
use Rattle.words.specs.Words.{Meaning, word_of, meaning}
use Rattle.theory.specs.Flooding.{Word, first_bit}

-- what the flood word of a path and a bit means: its tail is the bit
abbrev pub flood_meaning : Word → Meaning
flood_meaning w = record { kind = Flood; sites = w.path; tail = cond w.bit 1 0 }

-- the flood word of a path and a bit
unfoldable pub flood_word : Word → ℕ
flood_word w = word_of (flood_meaning w)

-- the path and the bit of a lawful word, if it is a flood word
abbrev pub flood_of_kind : Kind → Meaning → Option Word
flood_of_kind Flood m = Some (record { path = m.sites; bit = (m.tail == 1) })
flood_of_kind Route m = None
flood_of_kind Fan m = None

abbrev pub flood_of : Option Meaning → Option Word
flood_of None = None
flood_of (Some m) = flood_of_kind m.kind m

-- what a word of the air says: a path and a bit where it is a lawful flood word, else nothing
unfoldable pub flood_in : ℕ → Option Word
flood_in x = flood_of (meaning x)

-- some words behind one, if there is one
abbrev pub and_then : Option Word → List Word → List Word
and_then (Some w) ws = w ∷ ws
and_then None ws = ws

-- the lawful flood words of a lane, in their order; all other words are skipped
unfoldable pub floods : List ℕ → List Word
floods [] = []
floods (x ∷ xs) = and_then (flood_in x) (floods xs)

-- The bit heard along a path in a round, where lane u are the words in the lane of site u: that of the first lawful flood word
-- in the lane of the path's last site whose path is the path without that site; 1 where there is none.
unfoldable pub heard_in : (ℕ → List ℕ) → List ℕ → Bool
heard_in lane p = first_bit (floods (lane (final p))) (front p)

-- the bit of the first word that is x, which stands for 0, or the next number, which stands for 1; 1 where there is none
abbrev pub first_of_two : ℕ → List ℕ → Bool
first_of_two x [] = true
first_of_two x (w ∷ ws) = cond (w == x) false (cond (w == x + 1) true (first_of_two x ws))
