-- A common run of pairs: a site word, then the word put.
use Rattle.std.specs.Prelude.{◌≡◌, ℕ, ◌+◌, ◌<◌, ◌≤◌, Bool, cond, List, [], ◌∷◌, map, length, take, filter, ◌==◌, slice_index, slice_index_or}
use Rattle.airs.specs.declared.entry.Entry.{Entry}
use Rattle.airs.specs.Lanes.{Lanes}

-- a site word: kind 12 in bits 31 to 28, the site in bits 2 to 0, zeros between
abbrev pub word_for_site : ℕ → ℕ
word_for_site s = 0xC0000000 + s

-- the pair of a site and the word that it put
abbrev pub pair_of : ℕ → ℕ → Entry
pair_of s w = record { site_word = word_for_site s; word = w }

-- what stands for a pair past the end of a run
abbrev pub no_pair : Entry
no_pair = record { site_word = 0; word = 0 }

-- whether a pair is of a site
abbrev pub by_site : ℕ → Entry → Bool
by_site s e = e.site_word == word_for_site s

-- the words that a site put, in their order
abbrev pub lane_of : ℕ → List Entry → List ℕ
lane_of s es = map (λ (e : Entry). e.word) (filter (by_site s) es)

-- the six lanes of a run
abbrev pub run_lanes : List Entry → Lanes
run_lanes es = lane_of 0 es ∷ lane_of 1 es ∷ lane_of 2 es ∷ lane_of 3 es ∷ lane_of 4 es ∷ lane_of 5 es ∷ []

-- a pair's site word names a site below 6
abbrev pub Named : Entry → Type 0
Named e = (word_for_site 0 ≤ e.site_word) × (e.site_word < word_for_site 6)

-- each site word of a run names a site below 6
abbrev pub Sited : List Entry → Type 0
Sited es = (k : ℕ) → k < length es → Named (slice_index_or es k no_pair)

-- the places of a site's pairs in a run whose first pair has place i
abbrev pub places_of : ℕ → ℕ → List Entry → List ℕ
places_of s i [] = []
places_of s i (e ∷ es) = cond (by_site s e) (i ∷ places_of s (i + 1) es) (places_of s (i + 1) es)

-- for each site, how many places are noted, and which: all of its pairs in the run
abbrev pub Filed : List ℕ → List (List ℕ) → List Entry → Type 0
Filed counts places es = (s : ℕ) → s < 6 → take (slice_index counts s) (slice_index_or places s []) ≡ places_of s 0 es
