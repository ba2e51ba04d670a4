-- The flood word of a path, written and read.
use Rattle.std.proofs.Common.{◌≡◌, ℕ, Bool, true, false, cond, eqb, leb, List, Some, None, Option, sym, refl, ap, ◌∙◌, arith}
use Rattle.std.specs.Option.{option_map}
use Rattle.std.proofs.lemmas.Bool.{and_parts, leb-true}
use Rattle.sites.specs.Lists.{front}
use Rattle.words.specs.declared.kind.Kind.{Kind}
use Rattle.words.specs.declared.kind.Kind.TheVariants.{Flood, Route, Fan}
use Rattle.words.specs.Kinds.{suits, kind_named}
use Rattle.words.specs.Layout.{kind_field, path_field}
use Rattle.words.specs.Words.{Meaning, word_of, fields_as, meaning_as, meaning}
use Rattle.theory.specs.Network.{Network}
use Rattle.theory.specs.Flooding.{expected_up_to}
use Rattle.notebooks.specs.Floods.{flood_word, flood_in, flood_of, flood_of_kind}
use Rattle.notebooks.specs.Notebooks.{listed, place, bit_at, noted}
use Rattle.tables.specs.Entries.{path_word}
use Rattle.tables.specs.Tables.{place_in}
use Rattle.rounds.specs.Recalling.{asked}

abbrev pub flood : List ℕ → Meaning
flood p = record { kind = Flood; sites = p; tail = 0 }

-- ---- writing

-- the word of a path without its last site
pub front_written : (q p : List ℕ) (w : ℕ) (m : Meaning) → q ≡ front p → m ≡ flood q → w ≡ word_of m → w ≡ path_word (front p)
unfolding flood_word
front_written q p w m is same value = value ∙ ap word_of same ∙ ap (λ x. word_of (flood x)) is

-- ---- reading

pub asked_none : (w : ℕ) → meaning w ≡ None → asked (flood_in w) ≡ None
unfolding flood_in
asked_none w e = ap (λ o. asked (flood_of o)) e

module _ (w : ℕ) (m : Meaning) (is : meaning w ≡ Some m) where
  flood_is : m.kind ≡ Flood → flood_in w ≡ Some (record { path = m.sites; bit = eqb m.tail 1 })
  unfolding flood_in
  flood_is k = ap flood_of is ∙ ap (λ (x : Kind). flood_of_kind x m) k

  pub asked_zero : m.kind ≡ Flood → m.tail ≡ 0 → asked (flood_in w) ≡ Some m.sites
  asked_zero k t = ap asked (flood_is k) ∙ ap (λ x. cond (eqb x 1) None (Some m.sites)) t

  pub asked_one : (n : ℕ) → m.kind ≡ Flood → suits m.kind n m.tail ≡ true → (m.tail ≡ 0 → ⊥) → asked (flood_in w) ≡ None
  asked_one n k s ne =
      let a = and_parts (leb n 5) (leb m.tail 1) (sym (ap (λ (x : Kind). suits x n m.tail) k) ∙ s) in
      let one : m.tail ≡ 1 = omega (arith, leb-true m.tail 1 a.1) in
      ap asked (flood_is k) ∙ ap (λ x. cond (eqb x 1) None (Some m.sites)) one

  other : (x : Kind) → (x ≡ Flood → ⊥) → asked (flood_of_kind x m) ≡ None
  other Flood ne = absurd (ne refl)
  other Route ne = refl
  other Fan ne = refl

  pub asked_other : (m.kind ≡ Flood → ⊥) → asked (flood_in w) ≡ None
  unfolding flood_in
  asked_other ne = ap (λ o. asked (flood_of o)) is ∙ other m.kind ne

-- ---- looking a path up

pub noted_place : (N : Network) (v r : ℕ) (book p : List ℕ) → noted N v r book p ≡ option_map (bit_at book) (place_in p (expected_up_to N v r))
unfolding noted
noted_place N v r book p = out (listed p (expected_up_to N v r)) (place p (expected_up_to N v r))
  where
    out : (b : Bool) (i : ℕ) → cond b (Some (bit_at book i)) None ≡ option_map (bit_at book) (cond b (Some i) None)
    out true i = refl
    out false i = refl

-- ---- the sites of a lawful word

pub sites_read : (w : ℕ) (m : Meaning) → meaning w ≡ Some m → m.sites ≡ path_field w
sites_read w m = as_kind (kind_named (kind_field w))
  where
    as_test : (b : Bool) (k : Kind) → cond b (Some (fields_as w k)) None ≡ Some m → m.sites ≡ path_field w
    as_test true k e = let same : fields_as w k ≡ m = cc in sym (ap (λ (x : Meaning). x.sites) same)
    as_test false k e = absurd (let z : ◌≡◌ {A = ℕ} 0 1 = cc in omega arith)

    as_kind : (o : Option Kind) → meaning_as w o ≡ Some m → m.sites ≡ path_field w
    as_kind None e = absurd (let z : ◌≡◌ {A = ℕ} 0 1 = cc in omega arith)
    as_kind (Some k) e = as_test _ k e
