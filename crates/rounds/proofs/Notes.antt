-- What hearing a round leaves in a notebook, and reading it by levels.
use Rattle.std.proofs.Common.{◌≡◌, ℕ, zero, suc, ◌+◌, ◌-◌, ◌^◌, ◌<◌, Bool, true, false, cond, List, [], ◌∷◌, ◌++◌, map, length, get_or, take, drop, set, sym, refl, ap, ◌∙◌, subst, append_assoc, append-nil, length-append, arith}
use Rattle.std.proofs.Math.Seq.{set-append_seam}
use Rattle.std.proofs.lemmas.List.{take-append-drop, take_more, drop_more, length-take-le, length-drop, map-append, length-map, drop_at, take_all, get_or-map}
use Rattle.sites.specs.Lists.{In, front, final}
use Rattle.sites.proofs.Lists.{map_same, get_or_in, in_right}
use Rattle.airs.specs.Lanes.{Lanes, lane}
use Rattle.theory.specs.Flooding.{expected, expected_up_to, words_for}
use Rattle.theory.specs.Network.{Network}
use Rattle.notebooks.specs.Floods.{flood_word, heard_in}
use Rattle.notebooks.specs.Notebooks.{flood_words, note_round, round_words}
use Rattle.notebooks.specs.Laws.{Carried}
use Rattle.notebooks.proofs.Floods.{flood_two, first_word}
use Rattle.tables.specs.Entries.{path_word, entry_of, no_entry}
use Rattle.tables.specs.Tables.{table_network, table_level, table_paths}
use Rattle.tables.specs.declared.expected_path.ExpectedPath.{ExpectedPath}
use Rattle.tables.specs.declared.table.PathTable.{PathTable}
use Rattle.tables.proofs.TableFacts.{table_carried, counts_rise}
use Rattle.rounds.specs.Ears.{note_of}
use Rattle.rounds.proofs.Paths.{front_carried, final_small, word_small}

-- ---- one word after the other

-- a notebook in which words from a place on were noted, for the first i of some paths
abbrev pub noted_up : Lanes → ℕ → List ExpectedPath → ℕ → List ℕ → List ℕ
noted_up ls start ps i book = (take start book ++ map (note_of ls) (take i ps)) ++ drop (start + i) book

pub noted_none : (ls : Lanes) (start : ℕ) (ps : List ExpectedPath) (book : List ℕ) → book ≡ noted_up ls start ps 0 book
noted_none ls start ps book =
    let z : start ≡ start + 0 = omega arith in
    sym (take-append-drop start book)
    ∙ ap (λ j. take start book ++ drop j book) z
    ∙ sym (ap (λ t. t ++ drop (start + 0) book) (append-nil (take start book)))

pub noted_more : (ls : Lanes) (start i x : ℕ) (ps : List ExpectedPath) (book : List ℕ) → i < length ps → start + i < length book → x ≡ note_of ls (get_or ps i no_entry) →
    set (noted_up ls start ps i book) (start + i) x ≡ noted_up ls start ps (i + 1) book
noted_more ls start i x ps book lt within is =
    let front : List ℕ = take start book in
    let so_far : List ℕ = map (note_of ls) (take i ps) in
    let n : length (front ++ so_far) ≡ start + i =
    length-append front so_far ∙ omega (arith, length-take-le start book (omega arith), length-map (take i ps) (note_of ls), length-take-le i ps (omega arith)) in
    let rest : List ℕ = drop (start + i + 1) book in
    let next : start + i + 1 ≡ start + (i + 1) = omega arith in
    ap (λ t. set ((front ++ so_far) ++ t) (start + i) x) (drop_more book (start + i) 0 within)
    ∙ ap (λ k. set ((front ++ so_far) ++ (get_or book (start + i) 0 ∷ rest)) k x) (sym n)
    ∙ set-append_seam (front ++ so_far) (get_or book (start + i) 0) rest x
    ∙ sym (append_assoc (front ++ so_far) (x ∷ []) rest)
    ∙ ap (λ t. t ++ rest) (append_assoc front so_far (x ∷ []))
    ∙ ap (λ y. (front ++ (so_far ++ y ∷ [])) ++ rest) is
    ∙ ap (λ t. (front ++ t) ++ rest) (sym (map-append (note_of ls) (take i ps) (get_or ps i no_entry ∷ [])))
    ∙ ap (λ (t : List ExpectedPath). (front ++ map (note_of ls) t) ++ rest) (sym (take_more ps i no_entry lt))
    ∙ ap (λ j. (front ++ map (note_of ls) (take (i + 1) ps)) ++ drop j book) next

-- ---- the words noted

pub with_bit : (p : List ℕ) (b : Bool) → cond b (path_word p + 1) (path_word p) ≡ flood_word (record { path = p; bit = b })
with_bit p true = sym (flood_two p)
with_bit p false = refl

note_is : (ls : Lanes) (p : List ℕ) → Carried p → note_of ls (entry_of p) ≡ flood_word (record { path = p; bit = heard_in (lane ls) p })
unfolding heard_in
note_is ls p c =
    ap (λ b. cond b (path_word p + 1) (path_word p)) (first_word (front p) (front_carried p c.path) (lane ls (final p)))
    ∙ with_bit p (heard_in (lane ls) p)

notes_are : (ls : Lanes) (ps : List (List ℕ)) → ((p : List ℕ) → In p ps → Carried p) → map (note_of ls) (map entry_of ps) ≡ flood_words (heard_in (lane ls)) ps
unfolding flood_words
notes_are ls ps all = joined ps ∙ map_same (λ p. note_of ls (entry_of p)) (λ p. flood_word (record { path = p; bit = heard_in (lane ls) p })) ps (λ p i. note_is ls p (all p i)) ∙ sym (parted ps)
  where
    joined : (qs : List (List ℕ)) → map (note_of ls) (map entry_of qs) ≡ map (λ p. note_of ls (entry_of p)) qs
    joined [] = refl
    joined (q ∷ qs) = ap (λ x. note_of ls (entry_of q) ∷ x) (joined qs)

    parted : (qs : List (List ℕ)) → map flood_word (words_for (heard_in (lane ls)) qs) ≡ map (λ p. flood_word (record { path = p; bit = heard_in (lane ls) p })) qs
    parted [] = refl
    parted (q ∷ qs) = ap (λ x. flood_word (record { path = q; bit = heard_in (lane ls) q }) ∷ x) (parted qs)

-- ---- the levels of a table

pub paths_split : (N : Network) (v r : ℕ) → expected_up_to N v r ≡ expected_up_to N v (r - 1) ++ expected N v r
unfolding expected_up_to expected
paths_split N v zero = refl
paths_split N v (suc r) = let e : suc r - 1 ≡ r = omega arith in sym (ap (λ x. expected_up_to N v x ++ expected N v (suc r)) e)

module _ (t : PathTable) (r : ℕ) where
  level_carried : (p : List ℕ) → In p (table_level t r) → Carried p
  level_carried p i = table_carried t r p (subst (In p) (sym (paths_split (table_network t) t.site r)) (in_right (table_paths t (r - 1)) (table_level t r) p i))

  -- the entries of a level stand behind those of the levels before
  pub level_entries : (es : List ExpectedPath) (start : ℕ) → es ≡ map entry_of (table_paths t r) → start ≡ length (table_paths t (r - 1)) → drop start es ≡ map entry_of (table_level t r)
  level_entries es start is at =
      let before : List (List ℕ) = table_paths t (r - 1) in
      ap (drop start) (is ∙ ap (map entry_of) (paths_split (table_network t) t.site r) ∙ map-append entry_of before (table_level t r))
      ∙ drop_at (map entry_of before) (map entry_of (table_level t r)) start (length-map before entry_of ∙ sym at)

  -- the same, as the slice of them
  pub level_slice : (es : List ExpectedPath) (start : ℕ) → es ≡ map entry_of (table_paths t r) → start ≡ length (table_paths t (r - 1)) → take (length es - start) (drop start es) ≡ map entry_of (table_level t r)
  level_slice es start is at = take_all (length es - start) (drop start es) (omega (arith, length-drop start es)) ∙ level_entries es start is at

  -- what is noted for a round
  pub round_noted : (ls : Lanes) (ps : List ExpectedPath) (start i : ℕ) (book : List ℕ) → ps ≡ map entry_of (table_level t r) → start ≡ length (table_paths t (r - 1)) → i ≡ length ps →
      noted_up ls start ps i book ≡ note_round (table_network t) t.site r (heard_in (lane ls)) book
  unfolding note_round
  round_noted ls ps start i book is at end =
      let level : List (List ℕ) = table_level t r in
      let words : List ℕ = flood_words (heard_in (lane ls)) level in
      let last : start + i ≡ length (table_paths t r) = omega (arith, ap length is, length-map level entry_of, counts_rise t r) in
      append_assoc (take start book) (map (note_of ls) (take i ps)) (drop (start + i) book)
      ∙ ap (λ k. take k book ++ (map (note_of ls) (take i ps) ++ drop (start + i) book)) at
      ∙ ap (λ (x : List ExpectedPath). take (length (table_paths t (r - 1))) book ++ (map (note_of ls) x ++ drop (start + i) book)) (take_all i ps (omega arith) ∙ is)
      ∙ ap (λ x. take (length (table_paths t (r - 1))) book ++ (x ++ drop (start + i) book)) (notes_are ls level level_carried)
      ∙ ap (λ k. take (length (table_paths t (r - 1))) book ++ (words ++ drop k book)) last

  -- an entry can be heard
  pub record Hearable (e : ExpectedPath) : Type 0 where
    pub low_last : e.last < 6
    pub low_word : e.word < 2 ^ 32 - 1

  entry_hearable : (ps : List (List ℕ)) (es : List ExpectedPath) (i : ℕ) → ((p : List ℕ) → In p ps → Carried p) → es ≡ map entry_of ps → i < length es → Hearable (get_or es i no_entry)
  entry_hearable ps es i all is lt =
      let inside : i < length ps = omega (arith, ap length is, length-map ps entry_of) in
      let p : List ℕ = get_or ps i [] in
      let same : get_or es i no_entry ≡ entry_of p = ap (λ (x : List ExpectedPath). get_or x i no_entry) is ∙ get_or-map entry_of ps i [] no_entry inside in
      let c : Carried p = all p (get_or_in ps [] i inside) in
      let h : Hearable (entry_of p) = record { low_last = final_small p c.path; low_word = word_small p c } in
      subst Hearable (sym same) h

  pub level_hearable : (es : List ExpectedPath) (i : ℕ) → es ≡ map entry_of (table_level t r) → i < length es → Hearable (get_or es i no_entry)
  level_hearable es i is lt = entry_hearable (table_level t r) es i level_carried is lt

  pub hearable : (es : List ExpectedPath) (i : ℕ) → es ≡ map entry_of (table_paths t r) → i < length es → Hearable (get_or es i no_entry)
  hearable es i is lt = entry_hearable (table_paths t r) es i (table_carried t r) is lt

  -- the words noted for a level
  pub round_part : (book : List ℕ) (start end : ℕ) → start ≡ length (table_paths t (r - 1)) → end ≡ length (table_paths t r) →
      take (end - start) (drop start book) ≡ round_words (table_network t) t.site r book
  unfolding round_words
  round_part book start end at to =
      let m : end - start ≡ length (table_level t r) = omega (arith, counts_rise t r) in
      ap (λ x. take x (drop start book)) m ∙ ap (λ x. take (length (table_level t r)) (drop x book)) at
