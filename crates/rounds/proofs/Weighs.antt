-- Weighing by what a notebook tells.
use Rattle.std.proofs.Common.{◌≡◌, ℕ, zero, suc, ◌<◌, Bool, true, false, cond, MatchBool, List, [], ◌∷◌, map, length, drop, get_or, sym, refl, ap, ◌∙◌, subst, arith}
use Rattle.std.specs.List.{AllByRecursion, AllWithin, HoldsAt}
use Rattle.sites.specs.Sets.{in_set}
use Rattle.sites.specs.Lists.{front}
use Rattle.sites.specs.Keepers.{keepers}
use Rattle.theory.specs.Network.{Network}
use Rattle.theory.specs.Weighing.{zeros, all_are, agreed, weigh}

-- ---- all bits alike

same_head : (b x : Bool) (xs : List Bool) → x ≡ b → all_are b (x ∷ xs) ≡ all_are b xs
same_head true x xs e = rw e
same_head false x xs e = rw e

other_head : (b x : Bool) (xs : List Bool) → (x ≡ b → ⊥) → all_are b (x ∷ xs) ≡ false
other_head true true xs e = absurd (e refl)
other_head true false xs e = refl
other_head false true xs e = refl
other_head false false xs e = absurd (e refl)

tail_false : (b x : Bool) (xs : List Bool) → all_are b xs ≡ false → all_are b (x ∷ xs) ≡ false
tail_false true true xs e = e
tail_false true false xs e = refl
tail_false false true xs e = refl
tail_false false false xs e = e

-- the bits of some words, as a test of each lawful one tells them
module _ (L : ℕ → Type 0) (B : ℕ → Bool) (b : Bool) where
  all_alike : (ws : List ℕ) → AllByRecursion L ws → ((k : ℕ) → k < length ws → L (get_or ws k 0) → B (get_or ws k 0) ≡ b) → all_are b (map B ws) ≡ true
  all_alike [] a h = none b
    where
      none : (c : Bool) → all_are c [] ≡ true
      none true = refl
      none false = refl
  all_alike (w ∷ ws) a h = same_head b (B w) (map B ws) (h 0 (omega arith) a.0) ∙ all_alike ws a.1 (λ k lt. h (suc k) (omega arith))

  not_alike : (ws : List ℕ) (k : ℕ) → AllByRecursion L ws → k < length ws → (L (get_or ws k 0) → B (get_or ws k 0) ≡ b → ⊥) → all_are b (map B ws) ≡ false
  not_alike [] k a lt h = absurd (omega arith)
  not_alike (w ∷ ws) zero a lt h = other_head b (B w) (map B ws) (h a.0)
  not_alike (w ∷ ws) (suc k) a lt h = tail_false b (B w) (map B ws) (not_alike ws k a.1 (omega arith) h)

  pub all_told : (ws : List ℕ) (r : Bool) → AllByRecursion L ws →
      MatchBool r (AllWithin (λ w. L w → B w ≡ b) ws 0 (length ws)) ((k : ℕ) × (k < length ws) × HoldsAt (λ w. L w → B w ≡ b → ⊥) ws k) → r ≡ all_are b (map B ws)
  all_told ws true a h = sym (all_alike ws a (λ k lt. h k 0 (omega arith) lt))
  all_told ws false a h = sym (not_alike ws h.0 a h.1 (h.2 0))

-- ---- a fan, by its first word and the others

pub agreed_by : (L : ℕ → Type 0) (B : ℕ → Bool) (own bit r : Bool) (w : ℕ) (ws fan : List ℕ) → fan ≡ w ∷ ws → AllByRecursion L fan → (L w → bit ≡ B w) →
    r ≡ all_are bit (map B ws) → cond r bit own ≡ agreed own (map B fan)
unfolding agreed
agreed_by L B own bit r w ws fan is a told e =
    let first : bit ≡ B w = told (subst (AllByRecursion L) is a).0 in
    ap (λ t. cond t bit own) e ∙ ap (λ y. cond (all_are y (map B ws)) y own) first ∙ sym (ap (λ (x : List ℕ). agreed own (map B x)) is)

-- a fan is its first word and those behind it
pub parted : (fan : List ℕ) (w : ℕ) → 0 < length fan → w ≡ get_or fan 0 0 → fan ≡ w ∷ drop 1 fan
parted [] w h e = absurd (omega arith)
parted (x ∷ xs) w h e = ap (λ (y : ℕ). y ∷ xs) (sym e)

pub agreed_none : (B : ℕ → Bool) (own : Bool) (fan : List ℕ) → length fan ≡ 0 → own ≡ agreed own (map B fan)
unfolding agreed
agreed_none B own [] e = refl
agreed_none B own (x ∷ xs) e = absurd (omega arith)

-- ---- the whole

map_parts : {X Y Z : Type 0} (g : X → Y) (h : Y → Z) (xs : List X) → map (λ x. h (g x)) xs ≡ map h (map g xs)
map_parts g h [] = refl
map_parts g h (x ∷ xs) = ap (λ y. h (g x) ∷ y) (map_parts g h xs)

module _ (N : Network) (hear : List ℕ → Bool) (F : ℕ) (own : Bool) (v A : ℕ) (is : A ≡ keepers N.n N.f F (zeros N hear F own v)) where
  pub weigh_keeps : in_set A v ≡ true → own ≡ weigh N hear F own v
  unfolding weigh
  weigh_keeps h =
      sym (ap (λ x. cond (in_set x v) own (agreed own (map (λ p. hear (front p)) (N.fan F v x)))) (sym is)
      ∙ ap (λ b. cond b own (agreed own (map (λ p. hear (front p)) (N.fan F v A)))) h)

  pub weigh_takes : in_set A v ≡ false → (g : ℕ → List ℕ) (fan : List ℕ) → map g fan ≡ N.fan F v A → agreed own (map (λ w. hear (front (g w))) fan) ≡ weigh N hear F own v
  unfolding weigh
  weigh_takes h g fan paths =
      ap (agreed own) (map_parts g (λ p. hear (front p)) fan ∙ ap (map (λ p. hear (front p))) paths)
      ∙ sym (ap (λ x. cond (in_set x v) own (agreed own (map (λ p. hear (front p)) (N.fan F v x)))) (sym is)
      ∙ ap (λ b. cond b own (agreed own (map (λ p. hear (front p)) (N.fan F v A)))) h)
