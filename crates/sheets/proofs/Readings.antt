-- A sheet that passed rows 1 to 6 is read whole, in lawful items.
use Rattle.std.proofs.Common.{◌≡◌, ℕ, zero, suc, ◌+◌, ◌*◌, ◌/◌, ◌%◌, ◌<◌, ◌≤◌, true, ltb, leb, ◌⊎◌, List, [], ◌∷◌, ◌++◌, map, length, get_or, drop, Some, None, Ok, Option, sym, refl, ap, ◌∙◌, subst, inl, inr, ⊎_elim, arith}
use Rattle.std.specs.List.{AllByRecursion}
use Rattle.std.proofs.lemmas.List.{drop_all, drop_more, drop-drop, take-append-drop, length-take-le, length-drop, get_or-take, get_or-drop}
use Rattle.std.proofs.lemmas.Bool.{and_parts, cond-true, cond-false, eq-eqb, ne_eqb, ltb-true, lt-ltb, le-ltb, leb-true, cases_lt, cases_eq}
use Rattle.sites.specs.Lists.{join_all}
use Rattle.words.specs.Layout.{kind_field}
use Rattle.sheets.specs.Parts.{word_at, site_count, rogue_limit, edge_word, path_word?}
use Rattle.sheets.specs.Rows.{first_fan, fan_starts, run_at}
use Rattle.sheets.specs.Refusals.{well_formed}
use Rattle.sheets.specs.Items.{Part, words_of, part_at, item_at, place_after, Gives, Lawful, ReadWhole}
use Rattle.sheets.specs.Items.Part.{head, edge, route, fan}
use Rattle.sheets.proofs.Passed.{some_words, head_is, sites_range, rogues_range, kind_at, edge_at, path_at, fan_at, fans_after_head, no_fan_before, fan_words, first_starts, next_starts}

-- ---- the item at a place, by the kind of its word

module _ (ws : List ℕ) (i : ℕ) where
  abbrev ahead : Option Part → ℕ
  ahead o = elim o [ Some part ↦ i + length (words_of part) | None ↦ i ]

  pub ends : length ws ≤ i → (item_at ws i ≡ None) × (place_after ws i ≡ i)
  ends h = let e : item_at ws i ≡ None = cond-false _ _ _ (le-ltb i (length ws) h) in (e, ap ahead e)

  pub gives : (part : Part) → i < length ws → part_at ws i ≡ part → (item_at ws i ≡ Some part) × (place_after ws i ≡ i + length (words_of part))
  gives part h e =
      let d : item_at ws i ≡ Some part = cond-true _ _ _ (lt-ltb i (length ws) h) ∙ ap (λ (p : Part). Some p) e in
      (d, ap ahead d)

  pub head_part : kind_field (word_at ws i) ≡ 8 → part_at ws i ≡ head i (word_at ws i / 16 % 16) (word_at ws i % 16)
  head_part k = cond-true _ _ _ (eq-eqb _ _ k)

  pub edge_part : kind_field (word_at ws i) ≡ 9 → part_at ws i ≡ edge i (word_at ws i / 8 % 8) (word_at ws i % 8)
  edge_part k = cond-false _ _ _ (ne_eqb (kind_field (word_at ws i)) 8 (λ e. omega arith)) ∙ cond-true _ _ _ (eq-eqb _ _ k)

  pub fan_part : kind_field (word_at ws i) ≡ 11 → part_at ws i ≡ fan i (run_at ws i)
  fan_part k = cond-false _ _ _ (ne_eqb (kind_field (word_at ws i)) 8 (λ e. omega arith)) ∙ cond-false _ _ _ (ne_eqb (kind_field (word_at ws i)) 9 (λ e. omega arith)) ∙ cond-true _ _ _ (eq-eqb _ _ k)

  pub route_part : (kind_field (word_at ws i) ≡ 8 → ⊥) → (kind_field (word_at ws i) ≡ 9 → ⊥) → (kind_field (word_at ws i) ≡ 11 → ⊥) → part_at ws i ≡ route i (word_at ws i)
  route_part a b c = cond-false _ _ _ (ne_eqb _ _ a) ∙ cond-false _ _ _ (ne_eqb _ _ b) ∙ cond-false _ _ _ (ne_eqb _ _ c)

-- reading from one place gives one list of items
gives_one : (ws : List ℕ) (i : ℕ) (ps qs : List Part) → Gives ws i ps → Gives ws i qs → ps ≡ qs
gives_one ws i [] [] g h = refl
gives_one ws i [] (q ∷ qs) g h = absurd (let e = h.0 in let z : ◌≡◌ {A = ℕ} 0 1 = cc in omega arith)
gives_one ws i (p ∷ ps) [] g h = absurd (let e = g.0 in let z : ◌≡◌ {A = ℕ} 0 1 = cc in omega arith)
gives_one ws i (p ∷ ps) (q ∷ qs) g h =
    let a = g.0 in
    let b = h.0 in
    let e : p ≡ q = cc in
    let d = gives_one ws (place_after ws i) ps qs g.1 h.1 in
    cc

-- ---- each item after the head is lawful, and its words stand there

-- an item at i: it is given, lawful, and its words begin what is left of the sheet
record ItemHere (ws : List ℕ) (i : ℕ) (part : Part) : Type 0 where
  is : part_at ws i ≡ part
  fine : Lawful ws part
  there : drop i ws ≡ words_of part ++ drop (i + length (words_of part)) ws

all_words : (P : ℕ → Type 0) (xs : List ℕ) → ((k : ℕ) → k < length xs → P (get_or xs k 0)) → AllByRecursion P xs
all_words P [] h = tt
all_words P (x ∷ xs) h = (h 0 (omega arith), all_words P xs (λ k l. h (suc k) (omega arith)))

module _ (ws : List ℕ) (ok : well_formed ws ≡ Ok tt) where
  head_word : word_at ws 0 ≡ 0x80000000 + site_count ws * 16 + rogue_limit ws
  head_word = let h = (head_is ws ok).0 in omega arith

  edge_here : (i : ℕ) → 0 < i → i < length ws → kind_field (word_at ws i) ≡ 9 → ItemHere ws i (edge i (word_at ws i / 8 % 8) (word_at ws i % 8))
  edge_here i pos h k =
      let e = (edge_at ws ok i pos h k).0 in
      let p = and_parts (ltb (word_at ws i) 0x90000040) _ e in
      let q = and_parts _ _ p.1 in
      let small = ltb-true _ _ p.0 in
      let up = ltb-true _ _ q.0 in
      let w : edge_word (word_at ws i / 8 % 8) (word_at ws i % 8) ≡ word_at ws i = cond-true _ _ _ q.0 ∙ omega arith in
      record {
        is = edge_part ws i k;
        fine = (up, ltb-true _ _ q.1);
        there = drop_more ws i 0 h ∙ ap (λ (x : ℕ). x ∷ drop (i + 1) ws) (sym w);
      }

  route_here : (i : ℕ) → 0 < i → i < length ws → kind_field (word_at ws i) ≡ 10 → ItemHere ws i (route i (word_at ws i))
  route_here i pos h k = record {
    is = route_part ws i (λ e. omega arith) (λ e. omega arith) (λ e. omega arith);
    fine = (k, path_at ws ok i pos h (omega arith));
    there = drop_more ws i 0 h;
  }

  fan_here : (i : ℕ) → 0 < i → i < length ws → fan_starts ws i ≡ true → ItemHere ws i (fan i (run_at ws i)) × (length (run_at ws i) ≡ rogue_limit ws + 1)
  fan_here i pos h s =
      let p = and_parts (leb (i + (rogue_limit ws + 1)) (length ws)) _ (fan_at ws ok i pos h s) in
      let fits = leb-true (i + (rogue_limit ws + 1)) (length ws) p.0 in
      let lo = leb-true (first_fan ws) i (and_parts (leb (first_fan ws) i) _ s).0 in
      let n : length (run_at ws i) ≡ rogue_limit ws + 1 = length-take-le (rogue_limit ws + 1) (drop i ws) (omega (arith, length-drop i ws)) in
      let each = all_words (λ word. (kind_field word ≡ 11) × (path_word? ws word ≡ true)) (run_at ws i) (λ k l.
      let e : get_or (run_at ws i) k 0 ≡ word_at ws (i + k) = get_or-take (rogue_limit ws + 1) (drop i ws) k 0 (omega arith) ∙ get_or-drop i ws k 0 in
      let d = fan_words ws ok (i + k) (omega arith) (omega arith) in
      subst (λ (word : ℕ). (kind_field word ≡ 11) × (path_word? ws word ≡ true)) (sym e) (d, path_at ws ok (i + k) (omega arith) (omega arith) (omega arith))) in
      let t : drop i ws ≡ run_at ws i ++ drop (i + length (run_at ws i)) ws =
      sym (take-append-drop (rogue_limit ws + 1) (drop i ws)) ∙ ap (λ (ys : List ℕ). run_at ws i ++ ys) (drop-drop (rogue_limit ws + 1) i ws ∙ ap (λ (m : ℕ). drop (i + m) ws) (sym n)) in
      (record { is = fan_part ws i (fan_words ws ok i lo h); fine = (n, p.1, each); there = t }, n)

  -- ---- reading on from a place

  -- a reader stands before the first fan path, or where a fan begins
  abbrev Stands : ℕ → Type 0
  Stands i = (i < first_fan ws) ⊎ (fan_starts ws i ≡ true)

  one_on : (i : ℕ) → i < first_fan ws → Stands (i + 1)
  one_on i h = ⊎_elim (λ l. inl l) (λ l. inr (let e : first_fan ws ≡ i + 1 = omega arith in subst (λ (x : ℕ). fan_starts ws x ≡ true) e (first_starts ws))) (cases_lt (i + 1) (first_fan ws))

  -- what is read from i on
  abbrev Read_from : ℕ → Type 0
  Read_from i = (parts : List Part) × Gives ws i parts × AllByRecursion (Lawful ws) parts × (join_all (map words_of parts) ≡ drop i ws)

  more : (i : ℕ) (part : Part) → i < length ws → ItemHere ws i part → Read_from (i + length (words_of part)) → Read_from i
  more i part h here r =
      let g = gives ws i part h here.is in (
        part ∷ r.0,
        (g.0, subst (λ (k : ℕ). Gives ws k r.0) (sym g.1) r.1),
        (here.fine, r.2),
        ap (λ (ys : List ℕ). words_of part ++ ys) r.3 ∙ sym here.there,
      )

  step : (k i : ℕ) → length ws ≤ i + suc k → 0 < i → i < length ws → ((j : ℕ) → length ws ≤ j + k → 0 < j → Stands j → Read_from j) → Stands i → Read_from i
  step k i far pos h on (inl l) =
      let q = kind_at ws ok i pos h in
      ⊎_elim
      (λ e. more i (edge i (word_at ws i / 8 % 8) (word_at ws i % 8)) h (edge_here i pos h e) (on (i + 1) (omega arith) (omega arith) (one_on i l)))
      (λ d. ⊎_elim
      (λ e. absurd (no_fan_before ws ok i pos l e))
      (λ f. more i (route i (word_at ws i)) h (route_here i pos h (omega (arith, q.0, q.1))) (on (i + 1) (omega arith) (omega arith) (one_on i l)))
      (cases_eq (kind_field (word_at ws i)) 11))
      (cases_eq (kind_field (word_at ws i)) 9)
  step k i far pos h on (inr s) =
      let q = fan_here i pos h s in
      let n = q.1 in
      more i (fan i (run_at ws i)) h q.0
      (on (i + length (run_at ws i)) (omega arith) (omega arith) (inr (subst (λ (m : ℕ). fan_starts ws (i + m) ≡ true) (sym n) (next_starts ws i s))))

  read_end : (i : ℕ) → length ws ≤ i → Read_from i
  read_end i h = ([], (ends ws i h).0, tt, sym (drop_all i ws h))

  read_from : (k i : ℕ) → length ws ≤ i + k → 0 < i → Stands i → Read_from i
  read_from zero i far pos st = read_end i (omega arith)
  read_from (suc k) i far pos st = ⊎_elim (λ h. step k i far pos h (read_from k) st) (λ h. read_end i h) (cases_lt i (length ws))

  pub read_whole : ReadWhole ws
  read_whole =
      let h = some_words ws ok in
      let r = read_from (length ws) 1 (omega arith) (omega arith) (⊎_elim (λ l. inl l) (λ l. one_on 0 (fans_after_head ws ok)) (cases_lt 1 (first_fan ws))) in
      let k : kind_field (word_at ws 0) ≡ 8 = (let e = (head_is ws ok).0 in omega arith) in
      let g = gives ws 0 (head 0 (site_count ws) (rogue_limit ws)) h (head_part ws 0 k) in
      let w : word_at ws 0 ∷ drop 1 ws ≡ ws = sym (drop_more ws 0 0 h) in
      let given : Gives ws 0 (head 0 (site_count ws) (rogue_limit ws) ∷ r.0) = (g.0, subst (λ (n : ℕ). Gives ws n r.0) (sym g.1) r.1) in
      record {
        later_parts = r.0;
        given = given;
        nothing_else = λ parts other. gives_one ws 0 parts (head 0 (site_count ws) (rogue_limit ws) ∷ r.0) other given;
        sites_in_range = sites_range ws ok;
        rogues_in_range = rogues_range ws ok;
        lawful = r.2;
        whole = ap (λ (ys : List ℕ). (0x80000000 + site_count ws * 16 + rogue_limit ws) ∷ ys) r.3 ∙ ap (λ (x : ℕ). x ∷ drop 1 ws) (sym head_word) ∙ w;
      }
