-- A path is found by its word.
use Rattle.std.proofs.Common.{◌≡◌, ℕ, suc, ◌+◌, ◌<◌, ◌≤◌, Bool, true, false, cond, ◌||◌, not, eqb, ltb, leb, List, [], ◌∷◌, map, length, Some, None, Ok, Err, Result, sym, refl, ap, ◌∙◌, inl, inr, ⊎_elim, arith}
use Rattle.std.specs.Result.{result_ok}
use Rattle.std.specs.List.{position, position_or_len}
use Rattle.std.proofs.lemmas.Bool.{cases_Bool, cases_lt, lt-ltb, eq-eqb, ne_eqb, both_ways, and_parts, and_from, leb-true, le-leb}
use Rattle.std.proofs.lemmas.Bool.Decides.{nat_tests}
use Rattle.std.proofs.lemmas.List.{length-map}
use Rattle.sites.specs.Lists.{In, same_path}
use Rattle.sites.proofs.Lists.{same_path_refl, same_path_true}
use Rattle.words.specs.declared.kind.Kind.TheVariants.{Flood}
use Rattle.words.specs.Kinds.{suits}
use Rattle.words.specs.Paths.{path?}
use Rattle.words.specs.Words.{Meaning, lawful?, word_of, meaning_of, MakesWord}
use Rattle.words.specs.declared.path.PathWord.{PathWord}
use Rattle.sites.specs.declared.refusal.Refusal.{Refusal}
use Rattle.theory.specs.Flooding.{Word}
use Rattle.notebooks.specs.Floods.{flood_word}
use Rattle.notebooks.specs.Laws.{Carried}
use Rattle.notebooks.specs.Notebooks.{listed, place}
use Rattle.notebooks.proofs.Floods.{flood_one}
use Rattle.tables.specs.Entries.{path_word, entry_of}
use Rattle.tables.specs.Tables.{place_in}
use Rattle.tables.specs.declared.expected_path.ExpectedPath.{ExpectedPath}

same_word : (q p : List ℕ) → Carried q → Carried p → eqb (path_word q) (path_word p) ≡ same_path q p
same_word q p cq cp =
    ⊎_elim
    (λ e. eq-eqb (path_word q) (path_word p) (ap path_word (same_path_true q p e)) ∙ sym e)
    (λ e. ne_eqb (path_word q) (path_word p)
    (λ w. both_ways (same_path q p) e
    (ap (λ (x : Word). same_path x.path p) (flood_one (record { path = q; bit = false }) (record { path = p; bit = false }) cq cp w) ∙ same_path_refl p))
    ∙ sym e)
    (cases_Bool (same_path q p))

-- as many words differ from a path's word before its place as paths stand there
before_place : (p : List ℕ) (qs : List (List ℕ)) → Carried p → ((q : List ℕ) → In q qs → Carried q) → position_or_len (λ e. eqb e.word (path_word p)) (map entry_of qs) ≡ place p qs
before_place p [] cp all = refl
before_place p (q ∷ qs) cp all =
    turned (eqb (path_word q) (path_word p)) (position_or_len (λ e. eqb e.word (path_word p)) (map entry_of qs))
    ∙ ap (λ b. cond b 0 (suc (position_or_len (λ e. eqb e.word (path_word p)) (map entry_of qs)))) (same_word q p (all q (inl refl)) cp)
    ∙ ap (λ k. cond (same_path q p) 0 (suc k)) (before_place p qs cp (λ x i. all x (inr i)))
  where
    turned : (b : Bool) (k : ℕ) → cond (not b) (1 + k) 0 ≡ cond b 0 (suc k)
    turned true k = refl
    turned false k = omega arith

-- a path is among some where its place is
listed_place : (p : List ℕ) (qs : List (List ℕ)) → listed p qs ≡ ltb (place p qs) (length qs)
listed_place p [] = refl
listed_place p (q ∷ qs) = more (same_path q p) (listed p qs) (place p qs) (length qs) (listed_place p qs)
  where
    more : (s l : Bool) (k n : ℕ) → l ≡ ltb k n → (s || l) ≡ ltb (cond s 0 (suc k)) (suc n)
    more true l k n e = sym (lt-ltb 0 (suc n) (omega arith))
    more false l k n e = grind (arith, nat_tests)

pub found_place : (p : List ℕ) (qs : List (List ℕ)) → Carried p → ((q : List ℕ) → In q qs → Carried q) → position (λ e. eqb e.word (path_word p)) (map entry_of qs) ≡ place_in p qs
found_place p qs cp all =
    ap (λ k. cond (ltb k (length (map entry_of qs))) (Some k) None) (before_place p qs cp all)
    ∙ ap (λ n. cond (ltb (place p qs) n) (Some (place p qs)) None) (length-map qs entry_of)
    ∙ ap (λ b. cond b (Some (place p qs)) None) (sym (listed_place p qs))

-- a path that no flood word can carry is not among those that one can
pub not_listed : (p : List ℕ) (qs : List (List ℕ)) → 5 < length p → ((q : List ℕ) → In q qs → Carried q) → listed p qs ≡ false
not_listed p [] long all = refl
not_listed p (q ∷ qs) long all =
    ⊎_elim
    (λ e. absurd (let same : length q ≡ length p = ap length (same_path_true q p e) in let c = all q (inl refl) in omega (arith, c.short)))
    (λ e. ap (λ b. b || listed p qs) e ∙ not_listed p qs long (λ x i. all x (inr i)))
    (cases_Bool (same_path q p))

-- ---- the word of a path, where there is one

pub made : (m : Meaning) (r : Result PathWord Refusal) (f : PathWord) → MakesWord m r → Some f ≡ result_ok r → (lawful? m ≡ true) × (meaning_of f ≡ m)
made m (Ok x) f h e = let same : x ≡ f = cc in (h.0, sym (ap meaning_of same) ∙ h.1)
made m (Err d) f h e = absurd (let z : ◌≡◌ {A = ℕ} 0 1 = cc in omega arith)

pub not_made : (m : Meaning) (r : Result PathWord Refusal) → MakesWord m r → None ≡ result_ok r → lawful? m ≡ false
not_made m (Ok x) h e = absurd (let z : ◌≡◌ {A = ℕ} 0 1 = cc in omega arith)
not_made m (Err d) h e = h.0

carried_from : (p : List ℕ) → lawful? (record { kind = Flood; sites = p; tail = 0 }) ≡ true → Carried p
carried_from p h =
    let a = and_parts (path? p) (suits Flood (length p) 0) h in
    record { path = a.0; short = leb-true (length p) 5 (and_parts (leb (length p) 5) true a.1).0 }

pub found_by_word : (w : ℕ) (m : Meaning) (p : List ℕ) (qs : List (List ℕ)) → m ≡ record { kind = Flood; sites = p; tail = 0 } → lawful? (record { kind = Flood; sites = p; tail = 0 }) ≡ true →
    w ≡ word_of m → (es : List ExpectedPath) → es ≡ map entry_of qs → ((q : List ℕ) → In q qs → Carried q) → position (λ e. eqb e.word w) es ≡ place_in p qs
unfolding flood_word
found_by_word w m p qs same lawful is es listed-is all =
    ap (λ x. position (λ e. eqb e.word x) es) (is ∙ ap word_of same)
    ∙ ap (λ (x : List ExpectedPath). position (λ e. eqb e.word (path_word p)) x) listed-is
    ∙ found_place p qs (carried_from p lawful) all

pub no_word : (p : List ℕ) (qs : List (List ℕ)) → path? p ≡ true → lawful? (record { kind = Flood; sites = p; tail = 0 }) ≡ false → ((q : List ℕ) → In q qs → Carried q) → None ≡ place_in p qs
no_word p qs fine unlawful all =
    ⊎_elim
    (λ (le : length p < 6). absurd (both_ways (lawful? (record { kind = Flood; sites = p; tail = 0 })) unlawful
    (and_from (path? p) (suits Flood (length p) 0) fine (and_from (leb (length p) 5) true (le-leb (length p) 5 (omega arith)) refl))))
    (λ (long : 6 ≤ length p). sym (ap (λ b. cond b (Some (place p qs)) None) (not_listed p qs (omega arith) all)))
    (cases_lt (length p) 6)
