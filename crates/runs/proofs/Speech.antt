-- What sound sites put is what the algorithm has them owe, is read as it was put, and fits into the least lane.
use Rattle.std.proofs.Common.{◌≡◌, ℕ, zero, suc, ◌+◌, ◌-◌, ◌/◌, ◌%◌, ◌<◌, ◌≤◌, Bool, eqb, List, [], ◌∷◌, map, sym, refl, ap, ◌∙◌, subst, inl, inr, arith}
use Rattle.std.proofs.lemmas.Bool.{ne_eqb, cond-false}
use Rattle.sites.specs.Lists.{In}
use Rattle.sites.proofs.Lists.{in_mapped}
use Rattle.theory.specs.Network.{Network}
use Rattle.theory.specs.Flooding.{Word, Said, heard, expected}
use Rattle.theory.specs.Runs.{start, held, owed, owes}
use Rattle.notebooks.specs.Floods.{flood_word, floods}
use Rattle.notebooks.specs.Notebooks.{flood_words, shown, round_words, owed_words}
use Rattle.notebooks.specs.Laws.{Carried}
use Rattle.notebooks.proofs.Floods.{expected_carried, lane_back}
use Rattle.notebooks.proofs.Notebooks.{shown_round}

module _ (N : Network) (said : Said) (opening : ℕ → Bool) (v : ℕ) where
  -- what is owed by the bit held and the notebook, in a round of phase p
  pub owed_by_notebook : (p r : ℕ) (bit : Bool) (book : List ℕ) → bit ≡ held N said opening p v → ((r ≡ 0 → ⊥) → book ≡ shown N v r (heard said (start N p))) →
      owed_words N v (r + 1) bit book ≡ map flood_word (owed N said opening p r v)
  unfolding owed_words owed flood_words
  owed_by_notebook p zero bit book h b = ap (λ (x : Bool). flood_word (record { path = []; bit = x }) ∷ []) h
  owed_by_notebook p (suc k) bit book h b =
      let e : suc k + 1 - 1 ≡ suc k = omega arith in
      cond-false (eqb (suc k + 1) 1) _ (round_words N v (suc k + 1 - 1) book) (ne_eqb (suc k + 1) 1 (λ z. omega arith))
      ∙ ap (λ (j : ℕ). round_words N v j book) e
      ∙ ap (round_words N v (suc k)) (b (λ z. omega arith))
      ∙ shown_round N v (heard said (start N p)) (suc k)

  module _ (small : N.n ≤ 6) (below : v < N.n) where
    owed_carried : (p r : ℕ) (w : Word) → In w (owed N said opening p r v) → Carried w.path
    unfolding owed
    owed_carried p zero w (inl e) = subst (λ (x : Word). Carried x.path) (sym e) (record { path = refl; short = omega arith })
    owed_carried p zero w (inr i) = absurd i
    owed_carried p (suc k) w i =
        let m = in_mapped (λ (q : List ℕ). record { path = q; bit = heard said (start N p) q }) (expected N v (suc k)) w i in
        subst (λ (x : Word). Carried x.path) (sym m.2) (expected_carried N v (suc k) m.0 small below m.1)

    -- what is owed is read as it was put
    pub owes_back : (t : ℕ) → floods (map flood_word (owes N said opening t v)) ≡ owes N said opening t v
    unfolding owes
    owes_back t = lane_back (owed N said opening (t / (N.n - 1)) (t % (N.n - 1)) v) (owed_carried (t / (N.n - 1)) (t % (N.n - 1)))
