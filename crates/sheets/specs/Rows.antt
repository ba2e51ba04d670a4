-- What the first six rows of the check find: the place of the first word that offends, if there is one.
use Rattle.std.specs.Prelude.{ℕ, ◌+◌, ◌-◌, ◌%◌, Bool, cond, not, ◌&&◌, ◌||◌, eqb, List, length, take, drop, Some, None, Option, ◌==◌, nat_le, nat_lt}
use Rattle.sites.specs.Positions.{first_from}
use Rattle.words.specs.Layout.{kind_field}
use Rattle.sheets.specs.Parts.{word_at, site_count, rogue_limit, later, head?, edge?, path_word?, fan?}

module _ (ws : List ℕ) where
  -- 1: a sheet has 1 to 1,024 words
  abbrev pub size_fault : Option ℕ
  size_fault = cond (nat_lt 0 (length ws) && nat_le (length ws) 1024) None (Some 0)

  -- 2: its first word is a head
  abbrev pub head_fault : Option ℕ
  head_fault = cond (head? (word_at ws 0)) None (Some 0)

  -- 3: each later kind is 9, 10 or 11, and not below the kind before
  abbrev pub bad_kind : ℕ → Bool
  bad_kind i = nat_lt (kind_field (word_at ws i)) 9 || (nat_lt 11 (kind_field (word_at ws i)) || nat_lt (kind_field (word_at ws i)) (kind_field (word_at ws (i - 1))))

  abbrev pub kind_fault : Option ℕ
  kind_fault = first_from bad_kind 1 (later ws)

  -- 4: each edge joins two different sites below n, the lower first, and is above the word before
  abbrev pub bad_edge : ℕ → Bool
  bad_edge i = kind_field (word_at ws i) == 9 && not (edge? (site_count ws) (word_at ws i) && nat_lt (word_at ws (i - 1)) (word_at ws i))

  abbrev pub edge_fault : Option ℕ
  edge_fault = first_from bad_edge 1 (later ws)

  -- 5: each route and fan path is lawful, over sites below n, along edges
  abbrev pub bad_path : ℕ → Bool
  bad_path i = nat_le 10 (kind_field (word_at ws i)) && not (path_word? ws (word_at ws i))

  abbrev pub path_fault : Option ℕ
  path_fault = first_from bad_path 1 (later ws)

  -- 6: fans are counted off from the first fan path, f + 1 words each
  abbrev pub first_fan : ℕ
  first_fan = elim (first_from (λ i. eqb (kind_field (word_at ws i)) 11) 1 (later ws)) [ Some i ↦ i | None ↦ length ws ]

  -- a fan begins at i
  abbrev pub fan_starts : ℕ → Bool
  fan_starts i = nat_le first_fan i && (i - first_fan) % (rogue_limit ws + 1) == 0

  -- the f + 1 words from i on, or what is left of the sheet
  abbrev pub run_at : ℕ → List ℕ
  run_at i = take (rogue_limit ws + 1) (drop i ws)

  -- the words from i on are a whole fan
  abbrev pub fan_at? : ℕ → Bool
  fan_at? i = nat_le (i + (rogue_limit ws + 1)) (length ws) && fan? (run_at i)

  abbrev pub bad_fan : ℕ → Bool
  bad_fan i = fan_starts i && not (fan_at? i)

  abbrev pub fan_fault : Option ℕ
  fan_fault = first_from bad_fan 1 (later ws)
