-- What is heard along a path whose relays are sound.
use Rattle.std.proofs.Common.{◌≡◌, ℕ, suc, ◌+◌, ◌-◌, ◌<◌, ◌≤◌, Bool, true, false, cond, ◌⊎◌, List, [], ◌∷◌, ◌++◌, length, sym, refl, ap, ◌∙◌, subst, inl, inr, append_assoc, append-nil, arith, length-append}
use Rattle.std.specs.List.{AllByRecursion}
use Rattle.std.proofs.lemmas.Bool.{both_ways}
use Rattle.sites.specs.Lists.{In, front, final, same_path}
use Rattle.sites.proofs.Lists.{all_left, distinct_left, distinct_apart, same_path_refl, same_path_true, front_push, final_push}
use Rattle.theory.specs.Network.{Network, Way}
use Rattle.theory.specs.Flooding.{Word, Said, first_bit, heard, flooded, expected, words_for}
use Rattle.theory.specs.Runs.{start, held, owed, Sound, Run}
use Rattle.theory.specs.Expected.{JoinedPath}
use Rattle.theory.specs.Laws.{RelayLaw}
use Rattle.theory.proofs.Rounds.{owes_at}
use Rattle.theory.proofs.Paths.{linked_left, linked_at, expected_are, are_expected, expected_short, way_front, way_expected}

-- ---- the first word with a path

first_step : (g : List ℕ → Bool) (q p : List ℕ) (ws : List Word) (b : Bool) → same_path p q ≡ b → (In q (p ∷ []) ⊎ (first_bit ws q ≡ g q)) →
    cond b (g p) (first_bit ws q) ≡ g q
first_step g q p ws true d k = ap g (same_path_true p q d)
first_step g q p ws false d (inl (inl e)) = absurd (both_ways (same_path p q) d (ap (λ x. same_path p x) e ∙ same_path_refl p))
first_step g q p ws false d (inl (inr e)) = absurd e
first_step g q p ws false d (inr k) = k

-- among the words for some paths, that of a path has its bit
pub first_of : (hear : List ℕ → Bool) (qs : List (List ℕ)) (q : List ℕ) → In q qs → first_bit (words_for hear qs) q ≡ hear q
unfolding first_bit
first_of hear [] q i = absurd i
first_of hear (p ∷ qs) q (inl e) = first_step hear q p (words_for hear qs) (same_path p q) refl (inl (inl e))
first_of hear (p ∷ qs) q (inr i) = first_step hear q p (words_for hear qs) (same_path p q) refl (inr (first_of hear qs q i))

-- ---- relays

module _ (N : Network) (rogues : ℕ) (opening : ℕ → Bool) (said : Said) (turns : ℕ) (run : Run N rogues opening said turns) (p : ℕ) where
  honest_at : (r v : ℕ) → r < N.n - 1 → start N p + r < turns → Sound N rogues v → said (start N p + r) v ≡ owed N said opening p r v
  honest_at r v k l h = run.honest (start N p + r) v l h ∙ owes_at N said opening run.lawful.least p r v k

  -- a sound site floods the bit that it holds
  pub floods_held : (u : ℕ) → start N p < turns → Sound N rogues u → flooded said (start N p) u ≡ held N said opening p u
  unfolding heard owed first_bit
  floods_held u l h = ap (λ ws. first_bit ws []) (honest_at 0 u (omega (arith, run.lawful.least)) (omega arith) h)

  -- a sound site hands on what it heard
  relay : (x w : ℕ) (xs : List ℕ) → In (x ∷ xs) (expected N w (suc (length xs))) → suc (length xs) < N.n - 1 → start N p + suc (length xs) < turns → Sound N rogues w →
      heard said (start N p) ((x ∷ xs) ++ w ∷ []) ≡ heard said (start N p) (x ∷ xs)
  unfolding heard owed
  relay x w xs i k l h =
      ap (λ (q : List ℕ). first_bit (said (start N p + length q) (final ((x ∷ xs) ++ w ∷ []))) q) (front_push (x ∷ xs) w)
      ∙ ap (λ (s : ℕ). first_bit (said (start N p + suc (length xs)) s) (x ∷ xs)) (final_push (x ∷ xs) w)
      ∙ ap (λ ws. first_bit ws (x ∷ xs)) (honest_at (suc (length xs)) w k l h)
      ∙ first_of (heard said (start N p)) (expected N w (suc (length xs))) (x ∷ xs) i

  carry : (rest : List ℕ) (x : ℕ) (xs : List ℕ) (k : ℕ) → JoinedPath N k ((x ∷ xs) ++ rest) → AllByRecursion (Sound N rogues) rest → k ≤ N.n - 1 → start N p + k ≤ turns →
      heard said (start N p) ((x ∷ xs) ++ rest) ≡ heard said (start N p) (x ∷ xs)
  carry [] x xs k j s l b = ap (heard said (start N p)) (append-nil (x ∷ xs))
  carry (w ∷ rest) x xs k j s l b =
      let same : ((x ∷ xs) ++ w ∷ []) ++ rest ≡ (x ∷ xs) ++ w ∷ rest = append_assoc (x ∷ xs) (w ∷ []) rest in
      let long : suc (length xs) + suc (length rest) ≡ k = sym (length-append (x ∷ xs) (w ∷ rest)) ∙ j.long in
      let part : JoinedPath N (suc (length xs)) (x ∷ xs) = record {
        long = refl;
        sites = all_left (λ s. s < N.n) (x ∷ xs) (w ∷ rest) j.sites;
        distinct = distinct_left (x ∷ xs) (w ∷ rest) j.distinct;
        linked = linked_left N (x ∷ xs) (w ∷ rest) j.linked;
      } in
      let i : In (x ∷ xs) (expected N w (suc (length xs))) = are_expected N w (suc (length xs)) (x ∷ xs) (record {
        some = omega arith;
        path = part;
        last = linked_at N x xs w rest j.linked;
        lacks = λ m. distinct_apart (x ∷ xs) (w ∷ rest) w j.distinct m (inl refl);
      }) in
      ap (heard said (start N p)) (sym same)
      ∙ carry rest x (xs ++ w ∷ []) k (subst (JoinedPath N k) (sym same) j) s.1 l b
      ∙ relay x w xs i (omega arith) (omega arith) s.0

  -- an expected path carries what its source flooded
  pub carries : (v u k : ℕ) (relays : List ℕ) → v < N.n → In (u ∷ relays) (expected N v k) → start N p + k ≤ turns → AllByRecursion (Sound N rogues) relays →
      heard said (start N p) (u ∷ relays) ≡ flooded said (start N p) u
  carries v u k relays h i l s = carry relays u [] k (expected_are N v k (u ∷ relays) i).path s (expected_short N v k (u ∷ relays) h i) l

  -- and so does a way whose inner sites are sound
  pub along : (F u v : ℕ) (q : List ℕ) (t : Way N F u v q) → v < N.n → start N p + suc (length t.inner) ≤ turns → AllByRecursion (Sound N rogues) t.inner →
      heard said (start N p) (front q) ≡ flooded said (start N p) u
  along F u v q t h l s = ap (heard said (start N p)) (way_front N F u v q t) ∙ carries v u (suc (length t.inner)) t.inner h (way_expected N F u v q t) l s

pub relay_law : RelayLaw
relay_law N rogues opening said turns p v u k relays run h i l s =
    let e = carries N rogues opening said turns run p v u k relays h i l s in
    let x = expected_are N v k (u ∷ relays) i in
    record {
      as_flooded = e;
      as_held = λ sound. e ∙ floods_held N rogues opening said turns run p u (omega (arith, x.some)) sound;
    }
