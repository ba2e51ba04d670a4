-- One phase: a sound site holds what some sound site held; and where the suspect set holds every rogue, all sound sites hold the same.
use Rattle.std.proofs.Common.{◌≡◌, ℕ, suc, ◌+◌, ◌-◌, ◌/◌, ◌^◌, ◌<◌, ◌≤◌, Bool, true, false, cond, not, eqb, ltb, leb, ◌⊎◌, List, [], ◌∷◌, map, length, sym, refl, ap, ◌∙◌, subst, inl, inr, ⊎_elim, suc-mul, arith}
use lib.Bits.{bit_and}
use lib.Count.{ones}
use lib.ListN.{length-map}
use Rattle.std.proofs.lemmas.Bool.{eqb-true, eqb-false, cases_Bool, cases_lt, both_ways, and_from, and_parts, not-true, not-false, cond-true, cond-false}
use Rattle.std.proofs.lemmas.List.{get_or_past}
use Rattle.std.proofs.lemmas.Nat.{pow_pos}
use Rattle.sites.specs.Sets.{in_set, mask_of, others}
use Rattle.sites.specs.Lists.{In, front}
use Rattle.sites.specs.Suspects.{suspects}
use Rattle.sites.proofs.Lists.{all_in, all_of, in_left, in_map, in_mapped, get_or_in}
use Rattle.sites.proofs.Sets.{in_set_mask_of, mask_of_below, mask_of_same, in_set_others, ones_zero}
use Rattle.sites.proofs.Suspects.{suspects_are}
use Rattle.sites.specs.Keepers.{keepers}
use Rattle.theory.specs.Network.{Network, Suspect, Way, Fan}
use Rattle.theory.specs.Flooding.{Said, heard, flooded}
use Rattle.theory.specs.Weighing.{zeros, all_are, agreed, weigh}
use Rattle.theory.specs.Runs.{suspect, start, held, Sound, Run, Covers}
use Rattle.theory.proofs.Paths.{way_short}
use Rattle.theory.proofs.Fans.{free_path}
use Rattle.theory.proofs.Relays.{floods_held, along}

-- ---- the suspect set of a phase

pub suspect_is : (N : Network) (p : ℕ) → Suspect N (suspect N p)
unfolding suspect
suspect_is N p = ⊎_elim
    (λ l. let k = suspects_are N.n N.f (suspect N p) (get_or_in (suspects N.n N.f) 0 p l) in record { below = k.0; few = k.1 })
    (λ l. let e : suspect N p ≡ 0 = get_or_past (suspects N.n N.f) p 0 l in record { below = omega (arith, e, pow_pos N.n); few = omega (arith, ap ones e, ones_zero) })
    (cases_lt p (length (suspects N.n N.f)))

-- ---- the table

-- those that keep their bits are the sites with 1 or those with 0: no more of the table matters for agreement
pub keepers_either : (n f F Z : ℕ) → (keepers n f F Z ≡ others n Z) ⊎ (keepers n f F Z ≡ Z)
unfolding keepers
keepers_either n f F Z = go (leb (ones (bit_and Z F)) (f / 2)) (ltb f (ones (others n Z))) (ltb f (ones Z))
  where
    M : ℕ
    M = others n Z

    go : (a b c : Bool) → (cond a (cond b M Z) (cond c Z M) ≡ M) ⊎ (cond a (cond b M Z) (cond c Z M) ≡ Z)
    go true true c = inl refl
    go true false c = inr refl
    go false b true = inr refl
    go false b false = inl refl

-- whether they are the sites with 1
pub ones_keep : ℕ → ℕ → ℕ → ℕ → Bool
ones_keep n f F Z = eqb (keepers n f F Z) (others n Z)

pub keepers_are : (n f F Z : ℕ) → keepers n f F Z ≡ cond (ones_keep n f F Z) (others n Z) Z
unfolding ones_keep
keepers_are n f F Z = ⊎_elim
    (λ e. eqb-true (keepers n f F Z) (others n Z) e ∙ sym (cond-true (ones_keep n f F Z) (others n Z) Z e))
    (λ e. ⊎_elim (λ k. absurd (eqb-false (keepers n f F Z) (others n Z) e k)) (λ k. k) (keepers_either n f F Z) ∙ sym (cond-false (ones_keep n f F Z) (others n Z) Z e))
    (cases_Bool (ones_keep n f F Z))

-- ---- a common bit

each_is : (b : Bool) (bs : List Bool) → all_are b bs ≡ true → (x : Bool) → In x bs → x ≡ b
each_is b [] h x i = absurd i
each_is true (y ∷ ys) h x (inl e) = e ∙ (and_parts y (all_are true ys) h).0
each_is true (y ∷ ys) h x (inr i) = each_is true ys (and_parts y (all_are true ys) h).1 x i
each_is false (y ∷ ys) h x (inl e) = e ∙ not-true y (and_parts (not y) (all_are false ys) h).0
each_is false (y ∷ ys) h x (inr i) = each_is false ys (and_parts (not y) (all_are false ys) h).1 x i

are_all : (b : Bool) (bs : List Bool) → ((x : Bool) → In x bs → x ≡ b) → all_are b bs ≡ true
are_all b [] h = refl
are_all true (y ∷ ys) h = and_from y (all_are true ys) (h y (inl refl)) (are_all true ys (λ x i. h x (inr i)))
are_all false (y ∷ ys) h = and_from (not y) (all_are false ys) (ap not (h y (inl refl))) (are_all false ys (λ x i. h x (inr i)))

-- the bit agreed on is the old one, or each of the bits
agreed_is : (own : Bool) (bs : List Bool) → (agreed own bs ≡ own) ⊎ ((x : Bool) → In x bs → agreed own bs ≡ x)
unfolding agreed
agreed_is own [] = inl refl
agreed_is own (b ∷ bs) = ⊎_elim
    (λ e. inr (λ x i. cond-true (all_are b bs) b own e ∙ ⊎_elim (λ (k : x ≡ b). sym k) (λ j. sym (each_is b bs e x j)) i))
    (λ e. inl (cond-false (all_are b bs) b own e))
    (cases_Bool (all_are b bs))

agreed_all : (own b : Bool) (bs : List Bool) → 0 < length bs → ((x : Bool) → In x bs → x ≡ b) → agreed own bs ≡ b
unfolding agreed
agreed_all own b [] l h = absurd (omega arith)
agreed_all own b (c ∷ bs) l h =
    let e : c ≡ b = h c (inl refl) in
    cond-true (all_are c bs) c own (are_all c bs (λ x i. h x (inr i) ∙ sym e)) ∙ e

-- ---- weighing, where A is known

module _ (N : Network) (hear : List ℕ → Bool) (F v A : ℕ) (own : Bool) (is-A : keepers N.n N.f F (zeros N hear F own v) ≡ A) where
  pub weigh_kept : in_set A v ≡ true → weigh N hear F own v ≡ own
  unfolding weigh
  weigh_kept h = cond-true (in_set (keepers N.n N.f F (zeros N hear F own v)) v) own _ (ap (λ (x : ℕ). in_set x v) is-A ∙ h)

  pub weigh_moved : in_set A v ≡ false → weigh N hear F own v ≡ agreed own (map (λ q. hear (front q)) (N.fan F v A))
  unfolding weigh
  weigh_moved h = cond-false (in_set (keepers N.n N.f F (zeros N hear F own v)) v) own _ (ap (λ (x : ℕ). in_set x v) is-A ∙ h)
      ∙ ap (λ (x : ℕ). agreed own (map (λ q. hear (front q)) (N.fan F v x))) is-A

pub zeros_below : (N : Network) (hear : List ℕ → Bool) (F v : ℕ) (own : Bool) → zeros N hear F own v < 2 ^ N.n
unfolding zeros
zeros_below N hear F v own = mask_of_below N.n _

pub source_in : (N : Network) (F u v : ℕ) (q : List ℕ) → Way N F u v q → In u q
source_in N F u v q t = subst (λ (l : List ℕ). In u l) (sym t.is) (inl refl)

pub inner_in : (N : Network) (F u v : ℕ) (q : List ℕ) (t : Way N F u v q) (s : ℕ) → In s t.inner → In s q
inner_in N F u v q t s i = subst (λ (l : List ℕ). In s l) (sym t.is) (inr (in_left t.inner (v ∷ []) s i))

-- ---- one phase

module _ (N : Network) (rogues : ℕ) (opening : ℕ → Bool) (said : Said) (turns : ℕ) (run : Run N rogues opening said turns) (p : ℕ) (over : start N (suc p) ≤ turns) where
  abbrev hear : List ℕ → Bool
  hear = heard said (start N p)

  -- what is heard of a phase is heard before it is over
  within : (F u v : ℕ) (q : List ℕ) (t : Way N F u v q) → v < N.n → start N p + suc (length t.inner) ≤ turns
  within F u v q t h = omega (arith, way_short N F u v q t h, suc-mul p (N.n - 1))

  floods : (u : ℕ) → Sound N rogues u → flooded said (start N p) u ≡ held N said opening p u
  floods u h = floods_held N rogues opening said turns run p u (omega (arith, run.lawful.least, suc-mul p (N.n - 1))) h

  -- of a fan's paths, one brings what a sound site held
  fan_brings : (F v A : ℕ) (ps : List (List ℕ)) → Sound N rogues v → Fan N F v A ps →
      (q : List ℕ) × In q ps × ((u : ℕ) × Sound N rogues u × (hear (front q) ≡ held N said opening p u))
  fan_brings F v A ps h fan = (one.0, one.1, (t.0, sound t.0 (source_in N F t.0 v one.0 t.2), same))
    where
      way : (q : List ℕ) → In q ps → (u : ℕ) × (in_set A u ≡ true) × Way N F u v q
      way q i = all_in (λ q. (u : ℕ) × (in_set A u ≡ true) × Way N F u v q) ps q fan.paths i

      one : (q : List ℕ) × In q ps × ((s : ℕ) → In s q → in_set rogues s ≡ false)
      one = free_path N.n rogues v ps run.rogue_set.below h.1 fan.apart
          (λ q i s j. all_in (λ s. s < N.n) q s (way q i).2.sites j) (omega (arith, fan.many, run.rogue_set.few))

      t : (u : ℕ) × (in_set A u ≡ true) × Way N F u v one.0
      t = way one.0 one.1

      sound : (s : ℕ) → In s one.0 → Sound N rogues s
      sound s j = (all_in (λ s. s < N.n) one.0 s t.2.sites j, one.2 s j)

      same : hear (front one.0) ≡ held N said opening p t.0
      same = along N rogues opening said turns run p F t.0 v one.0 t.2 h.0 (within F t.0 v one.0 t.2 h.0)
          (all_of (Sound N rogues) t.2.inner (λ s j. sound s (inner_in N F t.0 v one.0 t.2 s j)))
          ∙ floods t.0 (sound t.0 (source_in N F t.0 v one.0 t.2))

  pub phase_origin : (v : ℕ) → Sound N rogues v → (u : ℕ) × Sound N rogues u × (held N said opening (suc p) v ≡ held N said opening p u)
  unfolding held
  phase_origin v h = ⊎_elim (λ e. (v, h, weigh_kept N hear F v A own refl e)) moved (cases_Bool (in_set A v))
    where
      F : ℕ
      F = suspect N p

      own : Bool
      own = held N said opening p v

      A : ℕ
      A = keepers N.n N.f F (zeros N hear F own v)

      moved : in_set A v ≡ false → (u : ℕ) × Sound N rogues u × (weigh N hear F own v ≡ held N said opening p u)
      moved e =
          let b = fan_brings F v A (N.fan F v A) h (run.lawful.fans F v (zeros N hear F own v) (suspect_is N p) h.0 (zeros_below N hear F v own) e) in
          let new : weigh N hear F own v ≡ agreed own (map (λ q. hear (front q)) (N.fan F v A)) = weigh_moved N hear F v A own refl e in
          ⊎_elim (λ k. (v, h, new ∙ k))
          (λ k. (b.2.0, b.2.1, new ∙ k (hear (front b.0)) (in_map (λ q. hear (front q)) (N.fan F v A) b.0 b.1) ∙ b.2.2))
          (agreed_is own (map (λ q. hear (front q)) (N.fan F v A)))

  abbrev flooded_zeros : ℕ
  flooded_zeros = mask_of N.n (λ u. not (flooded said (start N p) u))

  module _ (covers : Covers N rogues p) where
    cleared : (s : ℕ) → s < N.n → in_set (suspect N p) s ≡ false → Sound N rogues s
    cleared s h e = (h, ⊎_elim (λ r. absurd (both_ways (in_set (suspect N p) s) e (covers s h r))) (λ r. r) (cases_Bool (in_set rogues s)))

    -- a path that avoids the suspects carries what its source flooded
    carried : (u v : ℕ) (q : List ℕ) → v < N.n → Way N (suspect N p) u v q → hear (front q) ≡ flooded said (start N p) u
    carried u v q h t = along N rogues opening said turns run p (suspect N p) u v q t h (within (suspect N p) u v q t h)
        (all_of (Sound N rogues) t.inner (λ s i. cleared s (all_in (λ s. s < N.n) q s t.sites (inner_in N (suspect N p) u v q t s i)) (all_in (λ s. in_set (suspect N p) s ≡ false) t.inner s t.avoids i)))

    -- every sound site finds the same zeros
    zeros_same : (v : ℕ) → Sound N rogues v → zeros N hear (suspect N p) (held N said opening p v) v ≡ flooded_zeros
    unfolding zeros
    zeros_same v h = mask_of_same N.n _ (λ u. not (flooded said (start N p) u)) (λ u l. ap not (⊎_elim
        (λ (e : eqb u v ≡ true). cond-true (eqb u v) (held N said opening p v) _ e ∙ sym (floods v h) ∙ ap (flooded said (start N p)) (sym (eqb-true u v e)))
        (λ (e : eqb u v ≡ false). cond-false (eqb u v) (held N said opening p v) _ e ∙ carried u v (N.route (suspect N p) u v) h.0 (run.lawful.routes (suspect N p) u v (suspect_is N p) l h.0 (eqb-false u v e)))
        (cases_Bool (eqb u v))))

    abbrev A : ℕ
    A = keepers N.n N.f (suspect N p) flooded_zeros

    -- the bit of those that keep theirs
    abbrev kept_bit : Bool
    kept_bit = ones_keep N.n N.f (suspect N p) flooded_zeros

    -- all that keep their bit flooded the same one
    keepers_flooded : (u : ℕ) → u < N.n → in_set A u ≡ true → flooded said (start N p) u ≡ kept_bit
    keepers_flooded u l e = go kept_bit (ap (λ (m : ℕ). in_set m u) (sym (keepers_are N.n N.f (suspect N p) flooded_zeros)) ∙ e)
      where
        bit : Bool
        bit = flooded said (start N p) u

        in_zeros : in_set flooded_zeros u ≡ not bit
        in_zeros = in_set_mask_of N.n (λ u. not (flooded said (start N p) u)) u l

        go : (b : Bool) → in_set (cond b (others N.n flooded_zeros) flooded_zeros) u ≡ true → bit ≡ b
        go true k = not-false bit (not-true (not bit) (ap not (sym in_zeros) ∙ sym (in_set_others u N.n flooded_zeros l (mask_of_below N.n (λ u. not (flooded said (start N p) u)))) ∙ k))
        go false k = not-true bit (sym in_zeros ∙ k)

    pub phase_agrees : (v : ℕ) → Sound N rogues v → held N said opening (suc p) v ≡ kept_bit
    unfolding held
    phase_agrees v h = ⊎_elim
        (λ e. weigh_kept N hear F v A own same e ∙ sym (floods v h) ∙ keepers_flooded v h.0 e)
        (λ e. weigh_moved N hear F v A own same e ∙ agreed_all own kept_bit (map (λ q. hear (front q)) (N.fan F v A)) (many e) (each e))
        (cases_Bool (in_set A v))
      where
        F : ℕ
        F = suspect N p

        own : Bool
        own = held N said opening p v

        same : keepers N.n N.f F (zeros N hear F own v) ≡ A
        same = ap (keepers N.n N.f F) (zeros_same v h)

        fan : in_set A v ≡ false → Fan N F v A (N.fan F v A)
        fan e = run.lawful.fans F v flooded_zeros (suspect_is N p) h.0 (mask_of_below N.n (λ u. not (flooded said (start N p) u))) e

        many : in_set A v ≡ false → 0 < length (map (λ q. hear (front q)) (N.fan F v A))
        many e = rw length-map (omega (arith, (fan e).many))

        each : in_set A v ≡ false → (x : Bool) → In x (map (λ q. hear (front q)) (N.fan F v A)) → x ≡ kept_bit
        each e x i =
            let r = in_mapped (λ q. hear (front q)) (N.fan F v A) x i in
            let t = all_in (λ q. (u : ℕ) × (in_set A u ≡ true) × Way N F u v q) (N.fan F v A) r.0 (fan e).paths r.1 in
            let low : t.0 < N.n = all_in (λ s. s < N.n) r.0 t.0 t.2.sites (source_in N F t.0 v r.0 t.2) in
            r.2 ∙ carried t.0 v r.0 h.0 t.2 ∙ keepers_flooded t.0 low t.1
