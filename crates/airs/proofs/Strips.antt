-- What the counts and places of a strip say of its lanes.
use Rattle.std.proofs.Common.{◌≡◌, ℕ, ◌+◌, ◌-◌, ◌*◌, ◌<◌, ◌≤◌, [], ◌∷◌, ◌++◌, length, get_or, take, set, Some, sym, ap, ◌∙◌, subst, arith}
use Rattle.std.proofs.lemmas.List.{get_or-take, length-take-le, take_more_set}
use Rattle.std.proofs.lemmas.Option.{slice_get-get_or}
use Rattle.airs.specs.Lanes.{lane, count_of, word_at}
use Rattle.airs.specs.Runs.{pair_of, no_pair, lane_of, places_of}
use Rattle.airs.specs.Strips.{strip_run, strip_lanes}
use Rattle.airs.specs.declared.entry.Entry.{Entry}
use Rattle.airs.specs.declared.strip.Strip.{Strip}
use Rattle.airs.proofs.Runs.{lane_run, length_places, Found, found, sum_room}

module _ (t : Strip) (s : ℕ) (below : s < 6) where
  pub counted : get_or t.counts s 0 ≡ count_of (strip_lanes t) s
  counted =
      let fits : get_or t.counts s 0 ≤ length (get_or t.places s []) = omega (arith, t.within s below, t.wide s below) in
      sym (length-take-le (get_or t.counts s 0) (get_or t.places s []) fits)
      ∙ ap length (t.filed s below)
      ∙ length_places s 0 (strip_run t)
      ∙ ap length (sym (lane_run (strip_run t) s below))

  pub placed : (k : ℕ) → k < get_or t.counts s 0 → Found 0 (get_or (get_or t.places s []) k 0) (strip_run t) (get_or (lane (strip_lanes t) s) k 0)
  placed k h =
      let row = get_or t.places s [] in
      let l : k < length (places_of s 0 (strip_run t)) = omega (arith, length_places s 0 (strip_run t), counted, ap length (lane_run (strip_run t) s below)) in
      let p : get_or (places_of s 0 (strip_run t)) k 0 ≡ get_or row k 0 = ap (λ x. get_or x k 0) (sym (t.filed s below)) ∙ get_or-take (get_or t.counts s 0) row k 0 h in
      subst (λ x. Found 0 (get_or row k 0) (strip_run t) (get_or x k 0)) (sym (lane_run (strip_run t) s below))
      (subst (λ x. Found 0 x (strip_run t) (get_or (lane_of s (strip_run t)) k 0)) p (found s 0 (strip_run t) k l))

  -- the noted place is in the run, and the word there is the lane's
  pub place_fits : (k : ℕ) → k < get_or t.counts s 0 → get_or (get_or t.places s []) k 0 < 960
  place_fits k h =
      let f = placed k h in
      let fits : t.len ≤ length t.run = omega arith in
      omega (arith, f.1, length-take-le t.len t.run fits)

  pub reads : (k : ℕ) → k < get_or t.counts s 0 → word_at (strip_lanes t) s k ≡ Some (get_or t.run (get_or (get_or t.places s []) k 0) no_pair).word
  reads k h =
      let p = get_or (get_or t.places s []) k 0 in
      let f = placed k h in
      let fits : t.len ≤ length t.run = omega arith in
      let l : p < t.len = omega (arith, f.1, length-take-le t.len t.run fits) in
      let z : p - 0 ≡ p = omega arith in
      let m : k < length (lane (strip_lanes t) s) = omega (arith, counted) in
      slice_get-get_or (lane (strip_lanes t) s) k 0 m
      ∙ ap Some (sym f.2 ∙ ap (λ (e : Entry). e.word) (ap (λ i. get_or (strip_run t) i no_pair) z ∙ get_or-take t.len t.run p no_pair l))

-- there is room for one pair more, and the run then has it at its end
module _ (t : Strip) (s w : ℕ) (below : s < 6) (room : get_or t.counts s 0 < 160) (six : length t.counts ≡ 6) where
  pub free : t.len < 960
  free =
      let l : s < length t.counts = omega arith in
      let all : (q : ℕ) → q < length t.counts → get_or t.counts q 0 ≤ 160 = λ q h. t.within q (omega arith) in
      let r = sum_room 160 t.counts s l all room in
      omega (arith, r, ap (λ n. n * 160) six, t.whole)

  pub pushed : (e : Entry) → e ≡ pair_of s w → take (t.len + 1) (set t.run t.len e) ≡ strip_run t ++ pair_of s w ∷ []
  pushed e is =
      let l : t.len < length t.run = omega (arith, free) in
      take_more_set t.run t.len e l ∙ ap (λ x. strip_run t ++ x ∷ []) is
