-- What is held and owed depends only on earlier turns.
use Rattle.std.proofs.Common.{◌≡◌, ℕ, zero, suc, ◌+◌, ◌-◌, ◌/◌, ◌%◌, ◌<◌, ◌≤◌, Bool, true, false, not, eqb, List, [], ◌∷◌, map, length, sym, refl, ap, ◌∙◌, ⊎_elim, suc-mul, arith}
use Rattle.std.proofs.lemmas.Bool.{eqb-false, cases_Bool, cond-true, cond-false}
use Rattle.std.proofs.lemmas.Nat.{div-add-mod'}
use Rattle.sites.specs.Sets.{in_set}
use Rattle.sites.specs.Lists.{In, front, final}
use Rattle.sites.proofs.Sets.{mask_of_same}
use Rattle.sites.proofs.Lists.{all_in, map_same, front_length, final_all}
use Rattle.sites.specs.Keepers.{keepers}
use Rattle.theory.specs.Network.{Network, Lawful, Suspect, Way}
use Rattle.theory.specs.Flooding.{Said, first_bit, heard, expected}
use Rattle.theory.specs.Weighing.{zeros, agreed, weigh}
use Rattle.theory.specs.Runs.{suspect, start, held, owed, holds, owes}
use Rattle.theory.specs.Laws.{SameBefore, PastLaw}
use Rattle.theory.proofs.Paths.{expected_are, way_front, way_expected, way_short}
use Rattle.theory.proofs.Phases.{suspect_is, zeros_below, weigh_kept, weigh_moved}

-- ---- weighing needs only what is heard along ways

module _ (N : Network) (lawful : Lawful N) (F v : ℕ) (own : Bool) (suspected : Suspect N F) (below : v < N.n) (hear other : List ℕ → Bool)
    (alike : (u : ℕ) (q : List ℕ) → Way N F u v q → hear (front q) ≡ other (front q)) where
  pub zeros_alike : zeros N hear F own v ≡ zeros N other F own v
  unfolding zeros
  zeros_alike = mask_of_same N.n _ _ (λ u k. ap not (⊎_elim
      (λ (e : eqb u v ≡ true). cond-true (eqb u v) own _ e ∙ sym (cond-true (eqb u v) own _ e))
      (λ (e : eqb u v ≡ false). cond-false (eqb u v) own _ e ∙ alike u (N.route F u v) (lawful.routes F u v suspected k below (eqb-false u v e)) ∙ sym (cond-false (eqb u v) own _ e))
      (cases_Bool (eqb u v))))

  pub weigh_alike : weigh N hear F own v ≡ weigh N other F own v
  weigh_alike = ⊎_elim
      (λ e. weigh_kept N hear F v A own refl e ∙ sym (weigh_kept N other F v A own same e))
      (λ e. weigh_moved N hear F v A own refl e ∙ ap (agreed own) (fans e) ∙ sym (weigh_moved N other F v A own same e))
      (cases_Bool (in_set A v))
    where
      A : ℕ
      A = keepers N.n N.f F (zeros N hear F own v)

      same : keepers N.n N.f F (zeros N other F own v) ≡ A
      same = ap (keepers N.n N.f F) (sym zeros_alike)

      fans : in_set A v ≡ false → map (λ q. hear (front q)) (N.fan F v A) ≡ map (λ q. other (front q)) (N.fan F v A)
      fans e = map_same _ _ (N.fan F v A) (λ q i.
          let fan = lawful.fans F v (zeros N hear F own v) suspected below (zeros_below N hear F v own) e in
          let t = all_in (λ q. (u : ℕ) × (in_set A u ≡ true) × Way N F u v q) (N.fan F v A) q fan.paths i in
          alike t.0 q t.2)

-- ---- what was said before

module _ (N : Network) (opening : ℕ → Bool) (said other : Said) (lawful : Lawful N) where
  heard_same : (base t v k : ℕ) (q : List ℕ) → SameBefore N t said other → In q (expected N v k) → base + k ≤ t → heard said base q ≡ heard other base q
  unfolding heard
  heard_same base t v k [] same i l = let x = expected_are N v k [] i in absurd (omega (arith, x.some, x.path.long))
  heard_same base t v k (x ∷ xs) same i l =
      let e = expected_are N v k (x ∷ xs) i in
      let long : length (front (x ∷ xs)) ≡ length xs = front_length (x ∷ xs) (length xs) refl in
      ap (λ ws. first_bit ws (front (x ∷ xs))) (same (base + length (front (x ∷ xs))) (final (x ∷ xs)) (omega (arith, e.path.long)) (final_all (λ s. s < N.n) x xs e.path.sites))

  along_same : (p F u v : ℕ) (q : List ℕ) → v < N.n → SameBefore N (start N (suc p)) said other → Way N F u v q → heard said (start N p) (front q) ≡ heard other (start N p) (front q)
  along_same p F u v q h same t =
      ap (heard said (start N p)) (way_front N F u v q t)
      ∙ heard_same (start N p) (start N (suc p)) v (suc (length t.inner)) (u ∷ t.inner) same (way_expected N F u v q t) (omega (arith, way_short N F u v q t h, suc-mul p (N.n - 1)))
      ∙ ap (heard other (start N p)) (sym (way_front N F u v q t))

  pub held_same : (p v : ℕ) → v < N.n → SameBefore N (start N p) said other → held N said opening p v ≡ held N other opening p v
  unfolding held
  held_same zero v l same = refl
  held_same (suc p) v l same =
      weigh_alike N lawful (suspect N p) v (held N said opening p v) (suspect_is N p) l (heard said (start N p)) (heard other (start N p)) (λ u q t. along_same p (suspect N p) u v q l same t)
      ∙ ap (λ b. weigh N (heard other (start N p)) (suspect N p) b v) (held_same p v l (λ s w k m. same s w (omega (arith, suc-mul p (N.n - 1))) m))

  pub owed_same : (p r v : ℕ) → v < N.n → SameBefore N (start N p + r) said other → owed N said opening p r v ≡ owed N other opening p r v
  unfolding owed
  owed_same p zero v l same = ap (λ b. record { path = []; bit = b } ∷ []) (held_same p v l (λ s w k m. same s w (omega arith) m))
  owed_same p (suc k) v l same = map_same _ _ (expected N v (suc k)) (λ q i.
      ap (λ b. record { path = q; bit = b }) (heard_same (start N p) (start N p + suc k) v (suc k) q same i (omega arith)))

pub past_law : PastLaw
unfolding holds owes
past_law N opening said other t v lawful l same =
    let m : ℕ = N.n - 1 in (
      held_same N opening said other lawful (t / m) v l (λ s w j k. same s w (omega (arith, div-add-mod' t m)) k),
      owed_same N opening said other lawful (t / m) (t % m) v l (λ s w j k. same s w (omega (arith, div-add-mod' t m)) k),
    )
