-- What a notebook shows.
use Rattle.std.proofs.Common.{◌≡◌, ℕ, zero, suc, ◌+◌, ◌-◌, ◌%◌, ◌<◌, ◌≤◌, Bool, true, false, cond, ◌||◌, eqb, List, [], ◌∷◌, ◌++◌, map, length, take, drop, replicate, Some, None, sym, refl, ap, ◌∙◌, subst, inl, inr, ⊎_elim, append_assoc, arith}
use Rattle.std.proofs.lemmas.List.{map-append, length-map, length-append, length-replicate, length-take, take_at, drop_at, drop-drop, drop-replicate}
use Rattle.std.proofs.lemmas.Bool.{eq-eqb, ne_eqb, or_left, or_right, cases_Bool, cond-true, cond-false}
use Rattle.sites.specs.Lists.{In, same_path}
use Rattle.sites.proofs.Lists.{map_same, same_path_refl, same_path_true}
use Rattle.theory.specs.Network.{Network}
use Rattle.theory.specs.Flooding.{expected, expected_up_to, words_for}
use Rattle.theory.proofs.Counts.{expected_fits, all_fit}
use Rattle.theory.proofs.Paths.{in_up_to}
use Rattle.notebooks.specs.Floods.{flood_word}
use Rattle.notebooks.specs.Notebooks.{pages, empty_book, filled, flood_words, shown, first_place, note_round, round_words, owed_words, listed, place, bit_at, noted, or_one, told_by}
use Rattle.notebooks.specs.Laws.{NotebookLaw}

-- ---- flood words for some paths

pub length_words : (hear : List ℕ → Bool) (qs : List (List ℕ)) → length (flood_words hear qs) ≡ length qs
unfolding flood_words
length_words hear qs = length-map (words_for hear qs) flood_word ∙ length-map qs (λ p. record { path = p; bit = hear p })

pub words_append : (hear : List ℕ → Bool) (ps qs : List (List ℕ)) → flood_words hear (ps ++ qs) ≡ flood_words hear ps ++ flood_words hear qs
unfolding flood_words
words_append hear ps qs =
    ap (map flood_word) (map-append (λ p. record { path = p; bit = hear p }) ps qs)
    ∙ map-append flood_word (words_for hear ps) (words_for hear qs)

-- they depend only on what is heard along those paths
pub words_same : (hear other : List ℕ → Bool) (qs : List (List ℕ)) → ((q : List ℕ) → In q qs → hear q ≡ other q) → flood_words hear qs ≡ flood_words other qs
unfolding flood_words
words_same hear other qs e = ap (map flood_word) (map_same _ _ qs (λ q i. ap (λ (b : Bool). record { path = q; bit = b }) (e q i)))

pub note_same : (N : Network) (v r : ℕ) (hear other : List ℕ → Bool) (book : List ℕ) → ((q : List ℕ) → In q (expected N v r) → hear q ≡ other q) →
    note_round N v r hear book ≡ note_round N v r other book
unfolding note_round
note_same N v r hear other book e =
    ap (λ (ws : List ℕ). take (first_place N v r) book ++ (ws ++ drop (length (expected_up_to N v r)) book)) (words_same hear other (expected N v r) e)

-- ---- round by round

before : (k : ℕ) → suc k - 1 ≡ k
before k = omega arith

module _ (N : Network) (v : ℕ) (hear : List ℕ → Bool) where
  pub shown_none : shown N v 0 hear ≡ empty_book
  unfolding shown expected_up_to flood_words
  shown_none = refl

  more : (k : ℕ) → note_round N v (suc k) hear (shown N v k hear) ≡ shown N v (suc k) hear
  unfolding note_round shown expected_up_to
  more k =
      let A : List ℕ = flood_words hear (expected_up_to N v k) in
      let E : List ℕ = flood_words hear (expected N v (suc k)) in
      let R : List ℕ = replicate (pages - length A) 0 in
      let a : length A ≡ length (expected_up_to N v k) = length_words hear (expected_up_to N v k) in
      let e : length E ≡ length (expected N v (suc k)) = length_words hear (expected N v (suc k)) in
      let all : length (expected_up_to N v k ++ expected N v (suc k)) ≡ length A + length E = length-append (expected_up_to N v k) (expected N v (suc k)) ∙ omega arith in
      let first : take (length (expected_up_to N v (suc k - 1))) (A ++ R) ≡ A =
      ap (λ (j : ℕ). take (length (expected_up_to N v j)) (A ++ R)) (before k) ∙ take_at A R (length (expected_up_to N v k)) a in
      let rest : drop (length (expected_up_to N v k ++ expected N v (suc k))) (A ++ R) ≡ replicate (pages - length (A ++ E)) 0 =
      ap (λ (j : ℕ). drop j (A ++ R)) all ∙ sym (drop-drop (length E) (length A) (A ++ R)) ∙ ap (drop (length E)) (drop_at A R (length A) refl)
      ∙ drop-replicate (length E) (pages - length A) 0 ∙ ap (λ (j : ℕ). replicate j 0) (omega (arith, length-append A E)) in
      ap (λ (x : List ℕ). x ++ (E ++ drop (length (expected_up_to N v k ++ expected N v (suc k))) (A ++ R))) first
      ∙ ap (λ (x : List ℕ). A ++ (E ++ x)) rest
      ∙ sym (append_assoc A E (replicate (pages - length (A ++ E)) 0))
      ∙ ap filled (sym (words_append hear (expected_up_to N v k) (expected N v (suc k))))

  pub shown_more : (r : ℕ) → note_round N v (r + 1) hear (shown N v r hear) ≡ shown N v (r + 1) hear
  shown_more r =
      let one : suc r ≡ r + 1 = omega arith in
      subst (λ (k : ℕ). note_round N v k hear (shown N v r hear) ≡ shown N v k hear) one (more r)

  pub shown_round : (r : ℕ) → round_words N v r (shown N v r hear) ≡ flood_words hear (expected N v r)
  unfolding round_words shown expected_up_to expected flood_words
  shown_round zero = refl
  shown_round (suc k) =
      let A : List ℕ = flood_words hear (expected_up_to N v k) in
      let E : List ℕ = flood_words hear (expected N v (suc k)) in
      let whole : List ℕ = flood_words hear (expected_up_to N v k ++ expected N v (suc k)) in
      let R : List ℕ = replicate (pages - length whole) 0 in
      let split : filled whole ≡ A ++ (E ++ R) = ap (λ (x : List ℕ). x ++ R) (words_append hear (expected_up_to N v k) (expected N v (suc k))) ∙ append_assoc A E R in
      ap (λ (j : ℕ). take (length (expected N v (suc k))) (drop (length (expected_up_to N v j)) (filled whole))) (before k)
      ∙ ap (λ (x : List ℕ). take (length (expected N v (suc k))) (drop (length (expected_up_to N v k)) x)) split
      ∙ ap (take (length (expected N v (suc k)))) (drop_at A (E ++ R) (length (expected_up_to N v k)) (length_words hear (expected_up_to N v k)))
      ∙ take_at E R (length (expected N v (suc k))) (length_words hear (expected N v (suc k)))

-- ---- the bit of a path

pub flood_bit : (p : List ℕ) (b : Bool) → eqb (flood_word (record { path = p; bit = b }) % 2) 1 ≡ b
unfolding flood_word
flood_bit p true = eq-eqb _ 1 (omega arith)
flood_bit p false = ne_eqb _ 1 (λ e. omega arith)

word_at : (hear : List ℕ → Bool) (qs : List (List ℕ)) (rest p : List ℕ) → listed p qs ≡ true → bit_at (flood_words hear qs ++ rest) (place p qs) ≡ hear p
unfolding flood_words
word_at hear [] rest p l = absurd (let z : ◌≡◌ {A = ℕ} 0 1 = cc in omega arith)
word_at hear (q ∷ qs) rest p l = at (same_path q p) refl (λ k. word_at hear qs rest p k) l
  where
    at : (b : Bool) → same_path q p ≡ b → (listed p qs ≡ true → bit_at (map flood_word (words_for hear qs) ++ rest) (place p qs) ≡ hear p) → (b || listed p qs) ≡ true → bit_at (flood_word (record { path = q; bit = hear q }) ∷ (map flood_word (words_for hear qs) ++ rest)) (cond b 0 (suc (place p qs))) ≡ hear p
    at true e later k = flood_bit q (hear q) ∙ ap hear (same_path_true q p e)
    at false e later k = later k

pub in_listed : (p : List ℕ) (qs : List (List ℕ)) → In p qs → listed p qs ≡ true
in_listed p [] i = absurd i
in_listed p (q ∷ qs) (inl e) = or_left (same_path q p) (listed p qs) (ap (λ x. same_path x p) (sym e) ∙ same_path_refl p)
in_listed p (q ∷ qs) (inr i) = or_right (same_path q p) (listed p qs) (in_listed p qs i)

pub shown_noted : (N : Network) (v r : ℕ) (hear : List ℕ → Bool) (p : List ℕ) → noted N v r (shown N v r hear) p ≡ cond (listed p (expected_up_to N v r)) (Some (hear p)) None
unfolding noted shown
shown_noted N v r hear p =
    ⊎_elim
    (λ (e : listed p (expected_up_to N v r) ≡ true). ap (λ (b : Bool). cond (listed p (expected_up_to N v r)) (Some b) None) (word_at hear (expected_up_to N v r) _ p e))
    (λ e. cond-false (listed p (expected_up_to N v r)) _ None e ∙ sym (cond-false (listed p (expected_up_to N v r)) _ None e))
    (cases_Bool (listed p (expected_up_to N v r)))

pub shown_tells : (N : Network) (v : ℕ) (hear : List ℕ → Bool) (k : ℕ) (p : List ℕ) → k ≤ N.n - 1 → In p (expected N v k) → told_by N v (shown N v (N.n - 1) hear) p ≡ hear p
unfolding told_by
shown_tells N v hear k p l i =
    ap or_one (shown_noted N v (N.n - 1) hear p ∙ cond-true (listed p (expected_up_to N v (N.n - 1))) (Some (hear p)) None (in_listed p (expected_up_to N v (N.n - 1)) (in_up_to N v k (N.n - 1) p l i)))

-- ---- how many words

pub shown_long : (N : Network) (v r : ℕ) (hear : List ℕ → Bool) → N.n ≤ 6 → v < N.n → length (shown N v r hear) ≡ pages
unfolding shown
shown_long N v r hear small below =
    let ws : List ℕ = flood_words hear (expected_up_to N v r) in
    length-append ws (replicate (pages - length ws) 0)
    ∙ omega (arith, length_words hear (expected_up_to N v r), length-replicate {A = ℕ} (pages - length ws) 0, all_fit N v below small r)

pub put_few : (N : Network) (v r : ℕ) (held : Bool) (book : List ℕ) → N.n ≤ 6 → v < N.n → length (owed_words N v r held book) ≤ 120
unfolding owed_words round_words
put_few N v r held book small below = at (eqb r 1)
  where
    at : (b : Bool) → length (cond b (flood_word (record { path = []; bit = held }) ∷ []) (take (length (expected N v (r - 1))) (drop (first_place N v (r - 1)) book))) ≤ 120
    at true = omega arith
    at false = omega (arith, length-take (length (expected N v (r - 1))) (drop (first_place N v (r - 1)) book), expected_fits N v below small (r - 1))

pub notebook_law : NotebookLaw
unfolding flood_words
notebook_law N v hear = record {
  empty = shown_none N v hear;
  one_round_more = shown_more N v hear;
  round_to_put = shown_round N v hear;
  lookup = λ r p. shown_noted N v r hear p;
  tells = shown_tells N v hear;
  long = λ small below r. shown_long N v r hear small below;
  few_noted = λ small below r. all_fit N v below small r;
  few_put = λ small below held book r. put_few N v r held book small below;
}
