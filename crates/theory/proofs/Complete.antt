-- A network that passes the test of completeness is lawful.
use Rattle.std.proofs.Common.{◌≡◌, ℕ, suc, ◌^◌, ◌<◌, Bool, true, false, not, ◌&&◌, ◌||◌, eqb, ltb, leb, List, [], ◌∷◌, length, refl, ap, ◌∙◌, inl, inr, ⊎_elim, arith}
use Rattle.std.specs.List.{AllByRecursion, range_with_len}
use Rattle.std.proofs.lemmas.Bool.{eqb-true, leb-true, ltb-true, both_ways, and_parts, or_cases, not-true}
use Rattle.sites.specs.Sets.{in_set}
use Rattle.sites.specs.Lists.{In, Distinct, has, front, final}
use Rattle.sites.specs.Suspects.{suspects}
use Rattle.sites.proofs.Lists.{in_counting, lacks, front_final}
use Rattle.sites.proofs.Suspects.{in_suspects}
use Rattle.sites.specs.Keepers.{keepers}
use Rattle.theory.specs.Network.{Network, Suspect, Linked, Way, Apart, Fan}
use Rattle.theory.specs.Complete.{every, distinct?, linked?, way?, apart?, source, fan?, routes?, fans?, complete?, CompleteLaw}

pub every_in : {X : Type 0} (t : X → Bool) (xs : List X) (x : X) → every t xs ≡ true → In x xs → t x ≡ true
every_in t [] x h i = absurd i
every_in t (y ∷ ys) x h (inl e) = ap t e ∙ (and_parts (t y) (every t ys) h).0
every_in t (y ∷ ys) x h (inr i) = every_in t ys x (and_parts (t y) (every t ys) h).1 i

pub every_all : {X : Type 0} (t : X → Bool) (P : X → Type 0) → ((x : X) → t x ≡ true → P x) → (xs : List X) → every t xs ≡ true → AllByRecursion P xs
every_all t P k [] h = tt
every_all t P k (y ∷ ys) h = let a = and_parts (t y) (every t ys) h in (k y a.0, every_all t P k ys a.1)

pub distinct_from : (xs : List ℕ) → distinct? xs ≡ true → Distinct xs
distinct_from [] h = tt
distinct_from (x ∷ xs) h = let a = and_parts (not (has x xs)) (distinct? xs) h in (lacks x xs a.0, distinct_from xs a.1)

pub linked_from : (N : Network) (xs : List ℕ) → linked? N xs ≡ true → Linked N xs
linked_from N [] h = tt
linked_from N (x ∷ []) h = tt
linked_from N (x ∷ y ∷ r) h = let a = and_parts (N.joined x y) (linked? N (y ∷ r)) h in (a.0, linked_from N (y ∷ r) a.1)

-- a path that passes is a way
pub way_from : (N : Network) (F u v : ℕ) (p : List ℕ) → way? N F u v p ≡ true → Way N F u v p
unfolding way?
way_from N F u v [] h = absurd (both_ways false refl h)
way_from N F u v (x ∷ []) h = absurd (both_ways false refl h)
way_from N F u v (x ∷ y ∷ r) h = record {
  inner = front (y ∷ r);
  is = let a : x ≡ u = eqb-true x u ends.0 in let b : final (y ∷ r) ≡ v = eqb-true (final (y ∷ r)) v ends.1 in let c = front_final y r in cc;
  sites = every_all (λ s. ltb s N.n) (λ s. s < N.n) (λ s e. ltb-true s N.n e) (x ∷ y ∷ r) own.0;
  distinct = distinct_from (x ∷ y ∷ r) own.1;
  linked = linked_from N (x ∷ y ∷ r) rest.0;
  avoids = every_all (λ s. not (in_set F s)) (λ s. in_set F s ≡ false) (λ s e. not-true (in_set F s) e) (front (y ∷ r)) rest.1;
}
  where
    E : Bool
    E = eqb x u && eqb (final (y ∷ r)) v

    D : Bool
    D = every (λ s. ltb s N.n) (x ∷ y ∷ r) && distinct? (x ∷ y ∷ r)

    S : Bool
    S = linked? N (x ∷ y ∷ r) && every (λ s. not (in_set F s)) (front (y ∷ r))

    ends : (eqb x u ≡ true) × (eqb (final (y ∷ r)) v ≡ true)
    ends = and_parts (eqb x u) (eqb (final (y ∷ r)) v) (and_parts E (D && S) h).0

    own : (every (λ s. ltb s N.n) (x ∷ y ∷ r) ≡ true) × (distinct? (x ∷ y ∷ r) ≡ true)
    own = and_parts (every (λ s. ltb s N.n) (x ∷ y ∷ r)) (distinct? (x ∷ y ∷ r)) (and_parts D S (and_parts E (D && S) h).1).0

    rest : (linked? N (x ∷ y ∷ r) ≡ true) × (every (λ s. not (in_set F s)) (front (y ∷ r)) ≡ true)
    rest = and_parts (linked? N (x ∷ y ∷ r)) (every (λ s. not (in_set F s)) (front (y ∷ r))) (and_parts D S (and_parts E (D && S) h).1).1

pub apart_from : (v : ℕ) (ps : List (List ℕ)) → apart? v ps ≡ true → Apart v ps
apart_from v [] h = tt
apart_from v (p ∷ ps) h =
    let a = and_parts (every (λ q. every (λ s. not (has s q) || eqb s v) p) ps) (apart? v ps) h in (
      every_all (λ q. every (λ s. not (has s q) || eqb s v) p) (λ q. (s : ℕ) → In s p → In s q → s ≡ v)
          (λ q e s i j. ⊎_elim (λ k. absurd (lacks s q k j)) (λ k. eqb-true s v k) (or_cases (not (has s q)) (eqb s v) (every_in (λ s. not (has s q) || eqb s v) p s e i))) ps a.0,
      apart_from v ps a.1,
    )

-- paths that pass are a fan
pub fan_from : (N : Network) (F v A : ℕ) (ps : List (List ℕ)) → fan? N F v A ps ≡ true → Fan N F v A ps
unfolding fan?
fan_from N F v A ps h =
    let a = and_parts (eqb (length ps) (suc N.f)) (every (λ p. in_set A (source p) && way? N F (source p) v p) ps && apart? v ps) h in
    let b = and_parts (every (λ p. in_set A (source p) && way? N F (source p) v p) ps) (apart? v ps) a.1 in
    record {
      many = eqb-true (length ps) (suc N.f) a.0;
      paths = every_all (λ p. in_set A (source p) && way? N F (source p) v p) (λ p. (u : ℕ) × (in_set A u ≡ true) × Way N F u v p)
          (λ p e. let c = and_parts (in_set A (source p)) (way? N F (source p) v p) e in (source p, c.0, way_from N F (source p) v p c.1)) ps b.0;
      apart = apart_from v ps b.1;
    }

pub complete_law : CompleteLaw
unfolding complete? routes? fans?
complete_law N h = record {
  least = leb-true 2 N.n parts.0;
  routes = λ F u v s l k d. ⊎_elim (λ e. absurd (d (eqb-true u v e))) (λ e. way_from N F u v (N.route F u v) e)
      (or_cases (eqb u v) (way? N F u v (N.route F u v))
      (every_in (λ v. eqb u v || way? N F u v (N.route F u v)) (range_with_len 0 N.n) v
      (every_in (λ u. every (λ v. eqb u v || way? N F u v (N.route F u v)) (range_with_len 0 N.n)) (range_with_len 0 N.n) u (at F s).0 (in_counting 0 N.n u (omega arith) (omega arith)))
      (in_counting 0 N.n v (omega arith) (omega arith))));
  fans = λ F v Z s l k d. ⊎_elim (λ e. absurd (both_ways (in_set (keepers N.n N.f F Z) v) d e)) (λ e. fan_from N F v (keepers N.n N.f F Z) (N.fan F v (keepers N.n N.f F Z)) e)
      (or_cases (in_set (keepers N.n N.f F Z) v) (fan? N F v (keepers N.n N.f F Z) (N.fan F v (keepers N.n N.f F Z)))
      (every_in (λ Z. in_set (keepers N.n N.f F Z) v || fan? N F v (keepers N.n N.f F Z) (N.fan F v (keepers N.n N.f F Z))) (range_with_len 0 (2 ^ N.n)) Z
      (every_in (λ v. every (λ Z. in_set (keepers N.n N.f F Z) v || fan? N F v (keepers N.n N.f F Z) (N.fan F v (keepers N.n N.f F Z))) (range_with_len 0 (2 ^ N.n))) (range_with_len 0 N.n) v (at F s).1 (in_counting 0 N.n v (omega arith) (omega arith)))
      (in_counting 0 (2 ^ N.n) Z (omega arith) (omega arith))));
}
  where
    parts : (leb 2 N.n ≡ true) × (every (λ F. routes? N F && fans? N F) (suspects N.n N.f) ≡ true)
    parts = and_parts (leb 2 N.n) (every (λ F. routes? N F && fans? N F) (suspects N.n N.f)) h

    at : (F : ℕ) → Suspect N F → (routes? N F ≡ true) × (fans? N F ≡ true)
    at F s = and_parts (routes? N F) (fans? N F) (every_in (λ F. routes? N F && fans? N F) (suspects N.n N.f) F parts.1 (in_suspects N.n N.f F s.below s.few))
