-- From what holds at each place of a list of sites to ways and fans of a network.
use Rattle.std.proofs.Common.{◌≡◌, ℕ, zero, suc, ◌<◌, ◌≤◌, true, false, List, [], ◌∷◌, map, length, get_or, sym, refl, ap, ◌∙◌, subst, ⊎_elim, arith}
use Rattle.std.specs.List.{AllByRecursion}
use Rattle.std.proofs.lemmas.Bool.{cases_lt}
use Rattle.sites.specs.Lists.{In, Distinct, front, final}
use Rattle.sites.specs.Sets.{in_set}
use Rattle.sites.proofs.Lists.{place_of, all_of, in_mapped, front_final, front_length}
use Rattle.theory.specs.Network.{Network, Linked, Way, Apart}

pub all_places : {X : Type 0} (P : X → Type 0) (d : X) (xs : List X) → ((j : ℕ) → j < length xs → P (get_or xs j d)) → AllByRecursion P xs
all_places P d [] h = tt
all_places P d (x ∷ xs) h = (h 0 (omega arith), all_places P d xs (λ j l. h (suc j) (omega arith)))

distinct_places : (xs : List ℕ) → ((j i : ℕ) → j < i → i < length xs → get_or xs j 0 ≡ get_or xs i 0 → ⊥) → Distinct xs
distinct_places [] h = tt
distinct_places (x ∷ xs) h =
    ((λ m. let q = place_of xs x 0 m in h 0 (suc q.0) (omega arith) (omega (arith, q.1)) (sym q.2)), distinct_places xs (λ j i l k e. h (suc j) (suc i) (omega arith) (omega arith) e))

linked_places : (N : Network) (xs : List ℕ) → ((j : ℕ) → suc j < length xs → N.joined (get_or xs j 0) (get_or xs (suc j) 0) ≡ true) → Linked N xs
linked_places N [] h = tt
linked_places N (x ∷ []) h = tt
linked_places N (x ∷ y ∷ r) h = (h 0 (omega arith), linked_places N (y ∷ r) (λ j l. h (suc j) (omega arith)))

final_at : (x : ℕ) (r : List ℕ) → final (x ∷ r) ≡ get_or (x ∷ r) (length r) 0
final_at x [] = refl
final_at x (y ∷ r) = final_at y r

front_at : (x : ℕ) (r : List ℕ) (i : ℕ) → i < length r → get_or (front (x ∷ r)) i 0 ≡ get_or (x ∷ r) i 0
front_at x [] i l = absurd (omega arith)
front_at x (y ∷ r) zero l = refl
front_at x (y ∷ r) (suc i) l = front_at y r i (omega arith)

-- what makes a list of sites a way, place by place
pub record Steps (N : Network) (F u v : ℕ) (xs : List ℕ) : Type 0 where
  pub two : 2 ≤ length xs
  pub below : (j : ℕ) → j < length xs → get_or xs j 0 < N.n
  pub differ : (j i : ℕ) → j < i → i < length xs → get_or xs j 0 ≡ get_or xs i 0 → ⊥
  pub joined : (j : ℕ) → suc j < length xs → N.joined (get_or xs j 0) (get_or xs (suc j) 0) ≡ true
  pub starts : get_or xs 0 0 ≡ u
  pub ends : (m : ℕ) → suc m ≡ length xs → get_or xs m 0 ≡ v
  pub avoids : (i : ℕ) → 0 < i → suc i < length xs → in_set F (get_or xs i 0) ≡ false

pub way_by_steps : (N : Network) (F u v : ℕ) (xs : List ℕ) → Steps N F u v xs → Way N F u v xs
way_by_steps N F u v [] s = absurd (omega (arith, s.two))
way_by_steps N F u v (x ∷ []) s = absurd (omega (arith, s.two))
way_by_steps N F u v (x ∷ y ∷ r) s = record {
  inner = front (y ∷ r);
  is = let a : x ≡ u = s.starts in let b : final (y ∷ r) ≡ v = final_at y r ∙ s.ends (suc (length r)) refl in let c = front_final y r in cc;
  sites = all_places (λ z. z < N.n) 0 (x ∷ y ∷ r) s.below;
  distinct = distinct_places (x ∷ y ∷ r) s.differ;
  linked = linked_places N (x ∷ y ∷ r) s.joined;
  avoids = all_places (λ z. in_set F z ≡ false) 0 (front (y ∷ r)) (λ j l. let k : j < length r = inner_short j l in ap (in_set F) (front_at y r j k) ∙ s.avoids (suc j) (omega arith) (omega arith));
}
  where
    inner_short : (j : ℕ) → j < length (front (y ∷ r)) → j < length r
    inner_short j l = omega (arith, front_length (y ∷ r) (length r) refl)

-- two paths that end at v and share no other place
pub share_only : (v : ℕ) (xs ys : List ℕ) → ((m : ℕ) → suc m ≡ length xs → get_or xs m 0 ≡ v) → ((m : ℕ) → suc m ≡ length ys → get_or ys m 0 ≡ v) →
    ((i j : ℕ) → suc i < length xs → suc j < length ys → get_or xs i 0 ≡ get_or ys j 0 → ⊥) → (s : ℕ) → In s xs → In s ys → s ≡ v
share_only v xs ys ends-x ends-y apart s i j =
    let p = place_of xs s 0 i in
    let q = place_of ys s 0 j in
    ⊎_elim
    (λ a. ⊎_elim
    (λ b. absurd (apart p.0 q.0 a b (p.2 ∙ sym q.2)))
    (λ b. sym q.2 ∙ ends-y q.0 (omega (arith, q.1)))
    (cases_lt (suc q.0) (length ys)))
    (λ a. sym p.2 ∙ ends-x p.0 (omega (arith, p.1)))
    (cases_lt (suc p.0) (length xs))

pub apart_places : (g : ℕ → List ℕ) (v : ℕ) (run : List ℕ) → ((j k : ℕ) → j < k → k < length run → (s : ℕ) → In s (g (get_or run j 0)) → In s (g (get_or run k 0)) → s ≡ v) → Apart v (map g run)
apart_places g v [] h = tt
apart_places g v (w ∷ run) h =
    (all_of (λ q. (s : ℕ) → In s (g w) → In s q → s ≡ v) (map g run) later, apart_places g v run (λ j k l m. h (suc j) (suc k) (omega arith) (omega arith)))
  where
    later : (q : List ℕ) → In q (map g run) → (s : ℕ) → In s (g w) → In s q → s ≡ v
    later q m s a b =
        let r = in_mapped g run q m in
        let p = place_of run r.0 0 r.1 in
        h 0 (suc p.0) (omega arith) (omega (arith, p.1)) s a (subst (λ (l : List ℕ). In s l) (r.2 ∙ ap g (sym p.2)) b)

pub all_mapped : (g : ℕ → List ℕ) (P : List ℕ → Type 0) (run : List ℕ) → ((k : ℕ) → k < length run → P (g (get_or run k 0))) → AllByRecursion P (map g run)
all_mapped g P [] h = tt
all_mapped g P (w ∷ run) h = (h 0 (omega arith), all_mapped g P run (λ k l. h (suc k) (omega arith)))
