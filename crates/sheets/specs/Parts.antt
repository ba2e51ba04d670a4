-- The parts of a sheet: a head, then edges, then routes, then fan paths.
use Rattle.std.specs.Prelude.{ℕ, ◌+◌, ◌-◌, ◌*◌, ◌/◌, ◌%◌, ◌^◌, Bool, cond, not, ◌&&◌, ltb, List, length, is_some, ◌==◌, nat_eq, nat_le, nat_lt, slice_index}
use Rattle.sites.specs.Positions.{all_from, any_from}
use Rattle.sites.specs.Sets.{in_set}
use Rattle.words.specs.Layout.{path_field}
use Rattle.words.specs.Words.{meaning}

-- ---- one word

-- the site at a place of a word's path, the path's first site and its last
abbrev pub site_at : ℕ → ℕ → ℕ
site_at w i = slice_index (path_field w) i

abbrev pub source : ℕ → ℕ
source w = site_at w 0

abbrev pub end : ℕ → ℕ
end w = site_at w (length (path_field w) - 1)

-- none of the sites between a path's two ends is in F
abbrev pub avoids : ℕ → ℕ → Bool
avoids F w = all_from (λ i. not (in_set F (site_at w i))) 1 (length (path_field w) - 2)

-- a head: kind 8, n in bits 7 to 4, f in bits 3 to 0, zeros elsewhere; n is 2 to 6, f is 0 to 2
abbrev pub head? : ℕ → Bool
head? w = w / 2 ^ 8 == 0x800000 && (nat_le 2 (w / 16 % 16) && (nat_le (w / 16 % 16) 6 && nat_le (w % 16) 2))

-- the edge between two sites: kind 9, the lower site in bits 5 to 3, the higher in bits 2 to 0, zeros elsewhere
abbrev pub edge_word : ℕ → ℕ → ℕ
edge_word a b = cond (nat_lt a b) (0x90000000 + a * 8 + b) (0x90000000 + b * 8 + a)

-- an edge between two different sites below n
abbrev pub edge? : ℕ → ℕ → Bool
edge? n w = nat_lt w 0x90000040 && (nat_lt (w / 8 % 8) (w % 8) && nat_lt (w % 8) n)

-- ---- a run of fan paths

-- two paths share no site but their ends
abbrev pub apart : ℕ → ℕ → Bool
apart v w =
    all_from (λ i. all_from (λ j. not (site_at v i == site_at w j)) 0 (length (path_field w) - 1)) 0 (length (path_field v) - 1)

-- the k-th path of a run ends where the first one does, and shares no other site with those before it
abbrev pub joins_fan : List ℕ → ℕ → Bool
joins_fan run k = end (slice_index run k) == end (slice_index run 0) && all_from (λ j. apart (slice_index run j) (slice_index run k)) 0 k

-- the paths of a run end at one site and share no other
abbrev pub fan? : List ℕ → Bool
fan? run = all_from (joins_fan run) 0 (length run)

-- ---- a whole sheet

module _ (ws : List ℕ) where
  abbrev pub word_at : ℕ → ℕ
  word_at i = slice_index ws i

  -- n and f, as the head tells them
  abbrev pub site_count : ℕ
  site_count = word_at 0 / 16 % 16

  abbrev pub rogue_limit : ℕ
  rogue_limit = word_at 0 % 16

  -- how many words stand after the head
  abbrev pub later : ℕ
  later = length ws - 1

  -- some word is the edge between two sites
  abbrev pub joined : ℕ → ℕ → Bool
  joined a b = any_from (λ i. nat_eq (word_at i) (edge_word a b)) 1 later

  -- a lawful path word whose sites are below n and whose successive sites are joined
  abbrev pub path_word? : ℕ → Bool
  path_word? w =
      is_some (meaning w)
      && (all_from (λ j. ltb (site_at w j) site_count) 0 (length (path_field w))
      && all_from (λ j. joined (site_at w j) (site_at w (j + 1))) 0 (length (path_field w) - 1))
