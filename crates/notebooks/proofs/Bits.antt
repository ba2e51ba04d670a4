-- A notebook whose words count by their bits alone tells what it noted.
use Rattle.std.proofs.Common.{◌≡◌, ℕ, zero, suc, ◌+◌, ◌-◌, ◌%◌, Bool, cond, eqb, List, [], ◌∷◌, ◌++◌, length, get_or, replicate, sym, refl, ap, ◌∙◌, append_assoc, arith}
use Rattle.std.proofs.lemmas.List.{length-append, get_or_at}
use Rattle.theory.specs.Network.{Network}
use Rattle.theory.specs.Flooding.{expected, expected_up_to}
use Rattle.notebooks.specs.Floods.{flood_word}
use Rattle.notebooks.specs.Notebooks.{pages, filled, flood_words, shown, round_words, owed_words, bit_at, noted_words, noted_round, owed_by_bits}
use Rattle.notebooks.proofs.Notebooks.{length_words, words_append, flood_bit, shown_round}

-- words noted behind others are read back
noted_back : (hear : List ℕ → Bool) (qs : List (List ℕ)) (before rest : List ℕ) (i : ℕ) → i ≡ length before → noted_words (before ++ (flood_words hear qs ++ rest)) i qs ≡ flood_words hear qs
unfolding flood_words
noted_back hear [] before rest i at = refl
noted_back hear (q ∷ qs) before rest i at =
    let w : ℕ = flood_word (record { path = q; bit = hear q }) in
    let later : List ℕ = flood_words hear qs ++ rest in
    let here : get_or (before ++ (w ∷ later)) i 0 ≡ w = get_or_at before w later 0 i (sym at) in
    let bit : bit_at (before ++ (w ∷ later)) i ≡ hear q = ap (λ (x : ℕ). eqb (x % 2) 1) here ∙ flood_bit q (hear q) in
    let moved : before ++ (w ∷ later) ≡ (before ++ w ∷ []) ++ later = sym (append_assoc before (w ∷ []) later) in
    let next : i + 1 ≡ length (before ++ w ∷ []) = omega (arith, length-append before (w ∷ [])) in
    ap (λ (b : Bool). flood_word (record { path = q; bit = b }) ∷ noted_words (before ++ (w ∷ later)) (i + 1) qs) bit
    ∙ ap (λ (x : List ℕ). w ∷ noted_words x (i + 1) qs) moved
    ∙ ap (λ (x : List ℕ). w ∷ x) (noted_back hear qs (before ++ w ∷ []) rest (i + 1) next)

pub length_noted : (book : List ℕ) (i : ℕ) (qs : List (List ℕ)) → length (noted_words book i qs) ≡ length qs
length_noted book i [] = refl
length_noted book i (q ∷ qs) = ap suc (length_noted book (i + 1) qs)

-- by the bits of what the algorithm notes, the words of a round are those heard
shown_bits : (N : Network) (v : ℕ) (hear : List ℕ → Bool) (r : ℕ) → noted_round N v r (shown N v r hear) ≡ flood_words hear (expected N v r)
unfolding noted_round shown expected_up_to expected flood_words
shown_bits N v hear zero = refl
shown_bits N v hear (suc k) =
    let A : List ℕ = flood_words hear (expected_up_to N v k) in
    let E : List ℕ = flood_words hear (expected N v (suc k)) in
    let whole : List ℕ = flood_words hear (expected_up_to N v k ++ expected N v (suc k)) in
    let R : List ℕ = replicate (pages - length whole) 0 in
    let one : suc k - 1 ≡ k = omega arith in
    let split : filled whole ≡ A ++ (E ++ R) = ap (λ (x : List ℕ). x ++ R) (words_append hear (expected_up_to N v k) (expected N v (suc k))) ∙ append_assoc A E R in
    ap (λ (j : ℕ). noted_words (filled whole) (length (expected_up_to N v j)) (expected N v (suc k))) one
    ∙ ap (λ (x : List ℕ). noted_words x (length (expected_up_to N v k)) (expected N v (suc k))) split
    ∙ noted_back hear (expected N v (suc k)) A R (length (expected_up_to N v k)) (sym (length_words hear (expected_up_to N v k)))

-- what is owed by the bits of what the algorithm notes is what is owed by its words; in round 1 the notebook does not count
pub owed_alike : (N : Network) (v r : ℕ) (held : Bool) (book : List ℕ) (hear : List ℕ → Bool) → ((r ≡ 0 → ⊥) → book ≡ shown N v r hear) →
    owed_by_bits N v (r + 1) held book ≡ owed_words N v (r + 1) held book
unfolding owed_by_bits owed_words
owed_alike N v zero held book hear b = refl
owed_alike N v (suc k) held book hear b =
    let e : suc k + 1 - 1 ≡ suc k = omega arith in
    let is : book ≡ shown N v (suc k) hear = b (λ z. omega arith) in
    let bits : noted_round N v (suc k) book ≡ flood_words hear (expected N v (suc k)) = ap (noted_round N v (suc k)) is ∙ shown_bits N v hear (suc k) in
    let words : round_words N v (suc k) book ≡ flood_words hear (expected N v (suc k)) = ap (round_words N v (suc k)) is ∙ shown_round N v hear (suc k) in
    let same : noted_round N v (suc k + 1 - 1) book ≡ round_words N v (suc k + 1 - 1) book =
    ap (λ (j : ℕ). noted_round N v j book) e ∙ bits ∙ sym words ∙ ap (λ (j : ℕ). round_words N v j book) (sym e) in
    ap (λ (ws : List ℕ). cond (eqb (suc k + 1) 1) (flood_word (record { path = []; bit = held }) ∷ []) ws) same
