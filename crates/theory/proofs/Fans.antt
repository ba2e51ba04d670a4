-- Of more paths than there are rogues, sharing no site but one that is sound, one has no rogue.
use Rattle.std.proofs.Common.{◌≡◌, ℕ, suc, ◌^◌, ◌<◌, ◌≤◌, true, false, ◌⊎◌, List, [], ◌∷◌, length, sym, refl, ap, ◌∙◌, subst, inl, inr, ⊎_elim, arith}
use lib.Count.{ones}
use Rattle.std.proofs.lemmas.Bool.{cases_Bool, both_ways}
use Rattle.sites.specs.Sets.{in_set}
use Rattle.sites.specs.Lists.{In, Distinct}
use Rattle.sites.proofs.Lists.{all_in}
use Rattle.sites.proofs.Sets.{members_fit}
use Rattle.theory.specs.Network.{Apart}

-- no site of a path is rogue, or one is
rogue_in : (rogues : ℕ) (p : List ℕ) → ((s : ℕ) → In s p → in_set rogues s ≡ false) ⊎ ((s : ℕ) × In s p × (in_set rogues s ≡ true))
rogue_in rogues [] = inl (λ s i. absurd i)
rogue_in rogues (x ∷ xs) = here (cases_Bool (in_set rogues x)) (rogue_in rogues xs)
  where
    here : (in_set rogues x ≡ true) ⊎ (in_set rogues x ≡ false) → ((s : ℕ) → In s xs → in_set rogues s ≡ false) ⊎ ((s : ℕ) × In s xs × (in_set rogues s ≡ true)) →
        ((s : ℕ) → In s (x ∷ xs) → in_set rogues s ≡ false) ⊎ ((s : ℕ) × In s (x ∷ xs) × (in_set rogues s ≡ true))
    here (inl e) r = inr (x, inl refl, e)
    here (inr e) (inl c) = inl (λ s i. ⊎_elim (λ (k : s ≡ x). ap (in_set rogues) k ∙ e) (λ k. c s k) i)
    here (inr e) (inr r) = inr (r.0, inr r.1, r.2)

-- a rogue of each path
record Picked (rogues : ℕ) (ps : List (List ℕ)) : Type 0 where
  picks : List ℕ
  as_many : length picks ≡ length ps
  differ : Distinct picks
  from : (s : ℕ) → In s picks → (p : List ℕ) × In p ps × In s p × (in_set rogues s ≡ true)

pick : (rogues v : ℕ) → in_set rogues v ≡ false → (ps : List (List ℕ)) → Apart v ps →
    ((p : List ℕ) × In p ps × ((s : ℕ) → In s p → in_set rogues s ≡ false)) ⊎ Picked rogues ps
pick rogues v sound [] a = inr (record { picks = []; as_many = refl; differ = tt; from = λ s i. absurd i })
pick rogues v sound (p ∷ ps) a = go (rogue_in rogues p) (pick rogues v sound ps a.1)
  where
    go : ((s : ℕ) → In s p → in_set rogues s ≡ false) ⊎ ((s : ℕ) × In s p × (in_set rogues s ≡ true)) →
        ((q : List ℕ) × In q ps × ((s : ℕ) → In s q → in_set rogues s ≡ false)) ⊎ Picked rogues ps →
        ((q : List ℕ) × In q (p ∷ ps) × ((s : ℕ) → In s q → in_set rogues s ≡ false)) ⊎ Picked rogues (p ∷ ps)
    go (inl c) r = inl (p, inl refl, c)
    go (inr b) (inl c) = inl (c.0, inr c.1, c.2)
    go (inr b) (inr k) = inr (record {
      picks = b.0 ∷ k.picks;
      as_many = ap suc k.as_many;
      differ = (
        (λ i.
            let o = k.from b.0 i in
            let e : b.0 ≡ v = all_in (λ q. (s : ℕ) → In s p → In s q → s ≡ v) ps o.0 a.0 o.1 b.0 b.1 o.2 in
            both_ways (in_set rogues v) sound (ap (in_set rogues) (sym e) ∙ b.2)),
        k.differ,
      );
      from = λ s i. ⊎_elim
          (λ (e : s ≡ b.0). (p, inl refl, subst (λ (x : ℕ). In x p) (sym e) b.1, ap (in_set rogues) e ∙ b.2))
          (λ j. let o = k.from s j in (o.0, inr o.1, o.2, o.3)) i;
    })

pub free_path : (n rogues v : ℕ) (ps : List (List ℕ)) → rogues < 2 ^ n → in_set rogues v ≡ false → Apart v ps →
    ((p : List ℕ) → In p ps → (s : ℕ) → In s p → s < n) → ones rogues < length ps →
    (p : List ℕ) × In p ps × ((s : ℕ) → In s p → in_set rogues s ≡ false)
free_path n rogues v ps low sound a h more = ⊎_elim (λ c. c)
    (λ k. let m : length k.picks ≤ ones rogues = members_fit n rogues k.picks low k.differ (λ s i. let o = k.from s i in (h o.0 o.1 s o.2, o.3)) in
    absurd (omega (arith, k.as_many)))
    (pick rogues v sound ps a)
