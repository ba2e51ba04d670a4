-- What a reader gives out: the items of a sheet, each with its place.
use Rattle.std.specs.Prelude.{◌≡◌, ℕ, ◌+◌, ◌-◌, ◌*◌, ◌/◌, ◌%◌, ◌<◌, ◌≤◌, true, cond, List, [], ◌∷◌, map, length, Some, None, Ok, Err, Option, Result, ◌==◌, nat_lt}
use Rattle.std.specs.List.{AllByRecursion}
use Rattle.std.specs.Option.{option_map}
use Rattle.std.specs.Iterator.{Count, at_most}
use Rattle.sites.specs.Lists.{join_all}
use Rattle.words.specs.Layout.{kind_field}
use Rattle.sheets.specs.declared.refusal.SheetRefusal.{SheetRefusal}
use Rattle.sheets.specs.declared.reader.Item.{Item}
use Rattle.sheets.specs.declared.reader.Item.TheVariants.{Head, Edge, Route, Fan}
use Rattle.sheets.specs.declared.reader.Reader.{Reader}
use Rattle.sheets.specs.Parts.{word_at, site_count, rogue_limit, edge_word, path_word?, fan?}
use Rattle.sheets.specs.Rows.{run_at}
use Rattle.sheets.specs.Refusals.{well_formed}

-- an item and its place: a head with n and f, an edge with its lower and its higher site, a route's word, a fan's words
pub data Part : Type 0 where
  head : ℕ → ℕ → ℕ → Part
  edge : ℕ → ℕ → ℕ → Part
  route : ℕ → ℕ → Part
  fan : ℕ → List ℕ → Part

-- an item as the program gives it out
abbrev pub part_of : Item → Part
part_of (Head place sites rogues) = head place sites rogues
part_of (Edge place low high) = edge place low high
part_of (Route place word) = route place word
part_of (Fan place run) = fan place run.now

-- the words that an item is written as
abbrev pub words_of : Part → List ℕ
words_of (head place n f) = (0x80000000 + n * 16 + f) ∷ []
words_of (edge place a b) = edge_word a b ∷ []
words_of (route place word) = word ∷ []
words_of (fan place run) = run

module _ (ws : List ℕ) where
  -- the item at a place of the sheet, by the kind of the word there
  abbrev pub part_at : ℕ → Part
  part_at i =
      cond (kind_field (word_at ws i) == 8) (head i (word_at ws i / 16 % 16) (word_at ws i % 16))
      (cond (kind_field (word_at ws i) == 9) (edge i (word_at ws i / 8 % 8) (word_at ws i % 8))
      (cond (kind_field (word_at ws i) == 11) (fan i (run_at ws i))
      (route i (word_at ws i))))

  -- what a reader gives at a place: past the end nothing
  abbrev pub item_at : ℕ → Option Part
  item_at i = cond (nat_lt i (length ws)) (Some (part_at i)) None

  -- where it then stands: behind the item, and past the end where it stood
  abbrev pub place_after : ℕ → ℕ
  place_after i = elim (item_at i) [ Some part ↦ i + length (words_of part) | None ↦ i ]

  -- reading from a place on gives these items one by one, and then nothing
  abbrev pub Gives : ℕ → List Part → Type 0
  Gives i [] = item_at i ≡ None
  Gives i (part ∷ parts) = (item_at i ≡ Some part) × Gives (place_after i) parts

  -- an item after the head, as the rules want it
  abbrev pub Lawful : Part → Type 0
  Lawful (head place n f) = ⊥
  Lawful (edge place a b) = (a < b) × (b < site_count ws)
  Lawful (route place word) = (kind_field word ≡ 10) × (path_word? ws word ≡ true)
  Lawful (fan place run) = (length run ≡ rogue_limit ws + 1) × (fan? run ≡ true) × AllByRecursion (λ word. (kind_field word ≡ 11) × (path_word? ws word ≡ true)) run

  -- reading from the sheet's first word on gives a head and then lawful items, and their words in this order are the sheet:
  -- none left out, none twice
  pub record ReadWhole : Type 0 where
    pub later_parts : List Part
    pub given : Gives 0 (head 0 (site_count ws) (rogue_limit ws) ∷ later_parts)
    pub nothing_else : (parts : List Part) → Gives 0 parts → parts ≡ head 0 (site_count ws) (rogue_limit ws) ∷ later_parts
    pub sites_in_range : (2 ≤ site_count ws) × (site_count ws ≤ 6)
    pub rogues_in_range : rogue_limit ws ≤ 2
    pub lawful : AllByRecursion Lawful later_parts
    pub whole : join_all (map words_of (head 0 (site_count ws) (rogue_limit ws) ∷ later_parts)) ≡ ws

  -- every sheet that passes rows 1 to 6 is read so
  abbrev pub ReadingLaw : Type 0
  ReadingLaw = well_formed ws ≡ Ok tt → ReadWhole

-- what opening a reader answers: it opens exactly if rows 1 to 6 pass, and stands before the first word
abbrev pub Opens : List ℕ → Result Reader SheetRefusal → Type 0
Opens ws (Ok r) = (well_formed ws ≡ Ok tt) × (r.words.now ≡ ws) × (r.at ≡ 0)
Opens ws (Err e) = well_formed ws ≡ Err e

-- what a call of a reader's `next` gives, and where the reader then stands
pub record ReadsNext (r : Reader) (item : Option Item) (after : Reader) : Type 0 where
  pub gives : option_map part_of item ≡ item_at r.words.now r.at
  pub moves : after.at ≡ place_after r.words.now r.at
  pub same : after.words.now ≡ r.words.now

-- each item takes at least one of the words that are left
abbrev pub words_left : Reader → Count
words_left r = at_most (length r.words.now - r.at)
