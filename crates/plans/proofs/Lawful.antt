-- The network of a sheet that passes every check is lawful.
use Rattle.std.proofs.Common.{◌≡◌, ℕ, suc, ◌+◌, ◌-◌, ◌/◌, ◌%◌, ◌^◌, ◌<◌, ◌≤◌, Bool, true, false, cond, not, ◌&&◌, eqb, ltb, leb, List, map, length, get_or, drop, is_some, Some, None, Ok, Option, sym, refl, ap, ◌∙◌, subst, arith}
use lib.Bits.{bit_and}
use lib.Count.{ones}
use Rattle.std.proofs.lemmas.List.{length-take-le, length-drop, length-map, get_or-take, get_or-drop}
use Rattle.std.proofs.lemmas.Bool.{and_parts, and_from, eqb-true, eqb-false, ne_eqb, ltb-true, lt-ltb, leb-true, le-leb, not-true, not_from_false, both_ways, cond-true, cond-false}
use Rattle.sites.specs.Lists.{In}
use Rattle.sites.specs.Positions.{all_from}
use Rattle.sites.specs.Sets.{in_set, others}
use Rattle.sites.specs.Keepers.{keepers}
use Rattle.sites.proofs.Positions.{all_at, first_is}
use Rattle.sites.proofs.Sets.{others_below}
use Rattle.words.specs.declared.kind.Kind.{Kind}
use Rattle.words.specs.declared.kind.Kind.TheVariants.{Flood, Route, Fan as FanPath}
use Rattle.words.specs.Kinds.{kind_named, suits}
use Rattle.words.specs.Layout.{kind_field, count_field, site_fields, spare_field, tail_field, path_field}
use Rattle.words.specs.Paths.{fresh_at, site_ok, path?, zero_from}
use Rattle.words.specs.Words.{meaning, meaning_as}
use Rattle.sheets.specs.Parts.{site_at, source, end, avoids, apart, joins_fan, fan?, word_at, site_count, rogue_limit, later, joined}
use Rattle.sheets.specs.Rows.{first_fan, fan_starts, run_at}
use Rattle.theory.specs.Network.{Suspect, Way, Fan, Lawful}
use Rattle.plans.specs.Complete.{judged, serves_route, serves_fan, route_place, fan_here, fan_place, keeping}
use Rattle.plans.specs.Taken.{path_at as path_taken, words_at, suspect?, two_sites?, are_joined, route_taken, fan_taken, network_of}
use Rattle.sheets.proofs.Passed.{some_words, sites_range, path_at, fan_at, fan_words}
use Rattle.plans.proofs.Judged.{passes, route_there, fan_there}
use Rattle.plans.proofs.Ways.{way_by_steps, share_only, apart_places, all_mapped}

-- ---- a lawful word that is no flood word has two sites or more, all different

no_flood : (k : ℕ) → 10 ≤ k → kind_named k ≡ Some Flood → ⊥
no_flood k l e = go (eqb k 10) (eqb k 11) (sym (cond-false (eqb k 1) (Some Flood) (cond (eqb k 10) (Some Route) (cond (eqb k 11) (Some FanPath) None)) (ne_eqb k 1 (λ d. omega arith))) ∙ e)
  where
    go : (a b : Bool) → cond a (Some Route) (cond b (Some FanPath) None) ≡ Some Flood → ⊥
    go true b d = let z : ◌≡◌ {A = ℕ} 0 1 = cc in omega arith
    go false true d = let z : ◌≡◌ {A = ℕ} 0 1 = cc in omega arith
    go false false d = let z : ◌≡◌ {A = ℕ} 0 1 = cc in omega arith

kept : {X : Type 0} (b : Bool) (x : X) → is_some (cond b (Some x) None) ≡ true → b ≡ true
kept true x e = refl
kept false x e = absurd (both_ways false refl e)

module _ (w : ℕ) (high : 10 ≤ kind_field w) (some : is_some (meaning w) ≡ true) where
  fields : (leb 2 (count_field w) ≡ true) × (leb (count_field w) 6 ≡ true) × (path? (path_field w) ≡ true)
  fields = go (kind_named (kind_field w)) (no_flood (kind_field w) high) some
    where
      from : (k : Kind) → suits k (count_field w) (tail_field w) ≡ (leb 2 (count_field w) && (leb (count_field w) 6 && eqb (tail_field w) 0)) →
          is_some (meaning_as w (Some k)) ≡ true → (leb 2 (count_field w) ≡ true) × (leb (count_field w) 6 ≡ true) × (path? (path_field w) ≡ true)
      from k e h =
          let a = and_parts (suits k (count_field w) (tail_field w)) (eqb (spare_field w) 0 && (path? (path_field w) && zero_from (site_fields w) (count_field w))) (kept _ _ h) in
          let b = and_parts (eqb (spare_field w) 0) (path? (path_field w) && zero_from (site_fields w) (count_field w)) a.1 in
          let c = and_parts (path? (path_field w)) (zero_from (site_fields w) (count_field w)) b.1 in
          let d = and_parts (leb 2 (count_field w)) (leb (count_field w) 6 && eqb (tail_field w) 0) (sym e ∙ a.0) in
          (d.0, (and_parts (leb (count_field w) 6) (eqb (tail_field w) 0) d.1).0, c.0)

      go : (o : Option Kind) → (o ≡ Some Flood → ⊥) → is_some (meaning_as w o) ≡ true → (leb 2 (count_field w) ≡ true) × (leb (count_field w) 6 ≡ true) × (path? (path_field w) ≡ true)
      go None never h = absurd (both_ways false refl h)
      go (Some Flood) never h = absurd (never refl)
      go (Some Route) never h = from Route refl h
      go (Some FanPath) never h = from FanPath refl h

  two_or_more : 2 ≤ length (path_field w)
  two_or_more =
      let a = leb-true 2 (count_field w) fields.0 in
      let b = leb-true (count_field w) 6 fields.1 in
      let e : length (path_field w) ≡ count_field w = length-take-le (count_field w) (site_fields w) b in
      omega arith

  different : (j i : ℕ) → j < i → i < length (path_field w) → site_at w j ≡ site_at w i → ⊥
  different j i l k e =
      let a = and_parts (leb (length (path_field w)) 6) (all_from (site_ok (path_field w)) 0 (length (path_field w))) fields.2 in
      let b = all_at (site_ok (path_field w)) 0 (length (path_field w)) a.1 i (omega arith) (omega arith) in
      let c = and_parts (ltb (site_at w i) 6) (fresh_at (path_field w) i) b in
      let d = all_at (λ j. not (eqb (site_at w j) (site_at w i))) 0 i c.1 j (omega arith) (omega arith) in
      eqb-false (site_at w j) (site_at w i) (not-true (eqb (site_at w j) (site_at w i)) d) e

-- ---- a path of a sheet is a way of its network

ends_at : (w m : ℕ) → suc m ≡ length (path_field w) → site_at w m ≡ end w
ends_at w m e = let d : m ≡ length (path_field w) - 1 = omega arith in ap (site_at w) d

-- the sites that keep their bits are sites below n
keepers_below : (n f F Z : ℕ) → Z < 2 ^ n → keepers n f F Z < 2 ^ n
unfolding keepers
keepers_below n f F Z h = go (leb (ones (bit_and Z F)) (f / 2)) (ltb f (ones (others n Z))) (ltb f (ones Z))
  where
    go : (a b c : Bool) → cond a (cond b (others n Z) Z) (cond c Z (others n Z)) < 2 ^ n
    go true true c = others_below n Z
    go true false c = h
    go false b true = h
    go false b false = others_below n Z

module _ (ws : List ℕ) (ok : judged ws ≡ Ok tt) where
  word_way : (i : ℕ) → 0 < i → i < length ws → 10 ≤ kind_field (word_at ws i) → (F : ℕ) → avoids F (word_at ws i) ≡ true →
      Way (network_of ws) F (source (word_at ws i)) (end (word_at ws i)) (path_field (word_at ws i))
  word_way i lo hi high F free = way_by_steps (network_of ws) F (source w) (end w) (path_field w) record {
    two = two_or_more w high good.0;
    below = below;
    differ = different w high good.0;
    joined = joins;
    starts = refl;
    ends = ends_at w;
    avoids = λ j l k. not-true (in_set F (site_at w j)) (all_at (λ i. not (in_set F (site_at w i))) 1 (length (path_field w) - 2) free j (omega arith) (omega arith));
  }
    where
      w : ℕ
      w = word_at ws i

      good : (is_some (meaning (word_at ws i)) ≡ true) × ((all_from (λ j. ltb (site_at (word_at ws i) j) (site_count ws)) 0 (length (path_field (word_at ws i))) && all_from (λ j. joined ws (site_at (word_at ws i) j) (site_at (word_at ws i) (j + 1))) 0 (length (path_field (word_at ws i)) - 1)) ≡ true)
      good = and_parts (is_some (meaning (word_at ws i))) _ (path_at ws (passes ws ok) i lo hi high)

      rest : (all_from (λ j. ltb (site_at (word_at ws i) j) (site_count ws)) 0 (length (path_field (word_at ws i))) ≡ true) × (all_from (λ j. joined ws (site_at (word_at ws i) j) (site_at (word_at ws i) (j + 1))) 0 (length (path_field (word_at ws i)) - 1) ≡ true)
      rest = and_parts (all_from (λ j. ltb (site_at (word_at ws i) j) (site_count ws)) 0 (length (path_field (word_at ws i)))) _ good.1

      below : (j : ℕ) → j < length (path_field (word_at ws i)) → site_at (word_at ws i) j < site_count ws
      below j l = ltb-true (site_at (word_at ws i) j) (site_count ws) (all_at (λ j. ltb (site_at (word_at ws i) j) (site_count ws)) 0 (length (path_field (word_at ws i))) rest.0 j (omega arith) (omega arith))

      joins : (j : ℕ) → suc j < length (path_field (word_at ws i)) → are_joined ws (site_at (word_at ws i) j) (site_at (word_at ws i) (suc j)) ≡ true
      joins j l =
          let a = all_at (λ j. joined ws (site_at (word_at ws i) j) (site_at (word_at ws i) (j + 1))) 0 (length (path_field (word_at ws i)) - 1) rest.1 j (omega arith) (omega arith) in
          let e : j + 1 ≡ suc j = omega arith in
          let b : joined ws (site_at (word_at ws i) j) (site_at (word_at ws i) (suc j)) ≡ true = subst (λ (x : ℕ). joined ws (site_at (word_at ws i) j) (site_at (word_at ws i) x) ≡ true) e a in
          and_from (ltb (site_at (word_at ws i) j) (site_count ws)) _ (lt-ltb (site_at (word_at ws i) j) (site_count ws) (below j (omega arith)))
          (and_from (ltb (site_at (word_at ws i) (suc j)) (site_count ws)) _ (lt-ltb (site_at (word_at ws i) (suc j)) (site_count ws) (below (suc j) l)) b)

  -- ---- routes

  abbrev Routed : ℕ → ℕ → ℕ → Option ℕ → Type 0
  Routed F u v o = Way (network_of ws) F u v (path_taken ws o)

  route_way : (F u v : ℕ) (o : Option ℕ) → route_place ws F u v ≡ o → is_some o ≡ true → Routed F u v o
  route_way F u v None e s = absurd (both_ways false refl s)
  route_way F u v (Some i) e s =
      let q = first_is (λ i. serves_route F u v (word_at ws i)) 1 (later ws) i e in
      let a = and_parts (eqb (kind_field (word_at ws i)) 10) _ q.0 in
      let b = and_parts (eqb (source (word_at ws i)) u) _ a.1 in
      let c = and_parts (eqb (end (word_at ws i)) v) (avoids F (word_at ws i)) b.1 in
      let k = eqb-true (kind_field (word_at ws i)) 10 a.0 in
      let hi : i < length ws = omega (arith, q.2, some_words ws (passes ws ok)) in
      let way = word_way i (omega (arith, q.1)) hi (omega arith) F c.1 in
      let way-u = subst (λ (x : ℕ). Way (network_of ws) F x (end (word_at ws i)) (path_field (word_at ws i))) (eqb-true (source (word_at ws i)) u b.0) way in
      subst (λ (x : ℕ). Way (network_of ws) F u x (path_field (word_at ws i))) (eqb-true (end (word_at ws i)) v c.0) way-u

  route_lawful : (F u v : ℕ) → Suspect (network_of ws) F → u < site_count ws → v < site_count ws → (u ≡ v → ⊥) → Routed F u v (route_taken ws F u v)
  route_lawful F u v s hu hv differ = subst (Routed F u v) (sym (cond-true _ (route_place ws F u v) None asked)) (route_way F u v (route_place ws F u v) refl (route_there ws ok F u v s.below s.few hu hv differ))
    where
      asked : (suspect? (site_count ws) (rogue_limit ws) F && two_sites? ws u v) ≡ true
      asked = and_from (suspect? (site_count ws) (rogue_limit ws) F) (two_sites? ws u v)
          (and_from (ltb F (2 ^ site_count ws)) _ (lt-ltb F (2 ^ site_count ws) s.below) (le-leb (ones F) (rogue_limit ws) s.few))
          (and_from (ltb u (site_count ws)) _ (lt-ltb u (site_count ws) hu) (and_from (ltb v (site_count ws)) _ (lt-ltb v (site_count ws) hv) (not_from_false (eqb u v) (ne_eqb u v differ))))

  -- ---- fans

  abbrev Fanned : ℕ → ℕ → ℕ → Option ℕ → Type 0
  Fanned F v A o = Fan (network_of ws) F v A (map path_field (words_at ws o))

  module _ (F v A i : ℕ) (lo : 0 < i) (hi : i < length ws) (here : fan_here ws F v A i ≡ true) where
    abbrev run : List ℕ
    run = run_at ws i

    starts : fan_starts ws i ≡ true
    starts = (and_parts (fan_starts ws i) (leb (i + (rogue_limit ws + 1)) (length ws) && serves_fan F v A run) here).0

    fits : i + (rogue_limit ws + 1) ≤ length ws
    fits = leb-true (i + (rogue_limit ws + 1)) (length ws) (and_parts (leb (i + (rogue_limit ws + 1)) (length ws)) (serves_fan F v A run) (and_parts (fan_starts ws i) (leb (i + (rogue_limit ws + 1)) (length ws) && serves_fan F v A run) here).1).0

    serves : serves_fan F v A run ≡ true
    serves = (and_parts (leb (i + (rogue_limit ws + 1)) (length ws)) (serves_fan F v A run) (and_parts (fan_starts ws i) (leb (i + (rogue_limit ws + 1)) (length ws) && serves_fan F v A run) here).1).1

    whole : fan? run ≡ true
    whole = (and_parts (leb (i + (rogue_limit ws + 1)) (length ws)) (fan? run) (fan_at ws (passes ws ok) i lo hi starts)).1

    run_length : length run ≡ rogue_limit ws + 1
    run_length = length-take-le (rogue_limit ws + 1) (drop i ws) (omega (arith, length-drop i ws, fits))

    run_word : (k : ℕ) → k < rogue_limit ws + 1 → get_or run k 0 ≡ word_at ws (i + k)
    run_word k l = get_or-take (rogue_limit ws + 1) (drop i ws) k 0 l ∙ get_or-drop i ws k 0

    first_ends : end (get_or run 0 0) ≡ v
    first_ends = eqb-true (end (get_or run 0 0)) v (and_parts (eqb (end (get_or run 0 0)) v) _ serves).0

    joins : (k : ℕ) → k < length run → joins_fan run k ≡ true
    joins k l = all_at (joins_fan run) 0 (length run) whole k (omega arith) (omega arith)

    ends_here : (k : ℕ) → k < length run → end (get_or run k 0) ≡ v
    ends_here k l = eqb-true (end (get_or run k 0)) (end (get_or run 0 0)) (and_parts (eqb (end (get_or run k 0)) (end (get_or run 0 0))) _ (joins k l)).0 ∙ first_ends

    path_serves : (k : ℕ) → k < length run → (in_set A (source (get_or run k 0)) ≡ true) × (avoids F (get_or run k 0) ≡ true)
    path_serves k l =
        and_parts (in_set A (source (get_or run k 0))) (avoids F (get_or run k 0))
        (all_at (λ k. in_set A (source (get_or run k 0)) && avoids F (get_or run k 0)) 0 (length run) (and_parts (eqb (end (get_or run 0 0)) v) _ serves).1 k (omega arith) (omega arith))

    fan_kind : (k : ℕ) → k < length run → kind_field (word_at ws (i + k)) ≡ 11
    fan_kind k l =
        fan_words ws (passes ws ok) (i + k)
        (omega (arith, leb-true (first_fan ws) i (and_parts (leb (first_fan ws) i) (eqb ((i - first_fan ws) % (rogue_limit ws + 1)) 0) starts).0))
        (omega (arith, run_length, fits))

    path_way : (k : ℕ) → k < length run → Way (network_of ws) F (source (get_or run k 0)) v (path_field (get_or run k 0))
    path_way k l =
        let e : word_at ws (i + k) ≡ get_or run k 0 = sym (run_word k (omega (arith, run_length))) in
        let free : avoids F (word_at ws (i + k)) ≡ true = subst (λ (x : ℕ). avoids F x ≡ true) (sym e) (path_serves k l).1 in
        let way = word_way (i + k) (omega arith) (omega (arith, run_length, fits)) (omega (arith, fan_kind k l)) F free in
        let there : Way (network_of ws) F (source (get_or run k 0)) (end (get_or run k 0)) (path_field (get_or run k 0)) = subst (λ (x : ℕ). Way (network_of ws) F (source x) (end x) (path_field x)) e way in
        subst (λ (x : ℕ). Way (network_of ws) F (source (get_or run k 0)) x (path_field (get_or run k 0))) (ends_here k l) there

    apart_at : (j k : ℕ) → j < k → k < length run → (s : ℕ) → In s (path_field (get_or run j 0)) → In s (path_field (get_or run k 0)) → s ≡ v
    apart_at j k l m =
        share_only v (path_field (get_or run j 0)) (path_field (get_or run k 0))
        (λ x e. ends_at (get_or run j 0) x e ∙ ends_here j (omega arith))
        (λ x e. ends_at (get_or run k 0) x e ∙ ends_here k m)
        (λ a b la lb.
        let p : apart (get_or run j 0) (get_or run k 0) ≡ true = all_at (λ j. apart (get_or run j 0) (get_or run k 0)) 0 k (and_parts (eqb (end (get_or run k 0)) (end (get_or run 0 0))) _ (joins k m)).1 j (omega arith) (omega arith) in
        let q = all_at (λ x. all_from (λ y. not (eqb (site_at (get_or run j 0) x) (site_at (get_or run k 0) y))) 0 (length (path_field (get_or run k 0)) - 1)) 0 (length (path_field (get_or run j 0)) - 1) p a (omega arith) (omega arith) in
        let r = all_at (λ y. not (eqb (site_at (get_or run j 0) a) (site_at (get_or run k 0) y))) 0 (length (path_field (get_or run k 0)) - 1) q b (omega arith) (omega arith) in
        eqb-false (site_at (get_or run j 0) a) (site_at (get_or run k 0) b) (not-true (eqb (site_at (get_or run j 0) a) (site_at (get_or run k 0) b)) r))

    fan_here_lawful : Fan (network_of ws) F v A (map path_field run)
    fan_here_lawful = record {
      many = length-map run path_field ∙ run_length ∙ omega arith;
      paths = all_mapped path_field (λ p. (u : ℕ) × (in_set A u ≡ true) × Way (network_of ws) F u v p) run (λ k l. (source (get_or run k 0), (path_serves k l).0, path_way k l));
      apart = apart_places path_field v run apart_at;
    }

  fan_fan : (F v A : ℕ) (o : Option ℕ) → fan_place ws F v A ≡ o → is_some o ≡ true → Fanned F v A o
  fan_fan F v A None e s = absurd (both_ways false refl s)
  fan_fan F v A (Some i) e s =
      let q = first_is (fan_here ws F v A) 1 (later ws) i e in
      fan_here_lawful F v A i (omega (arith, q.1)) (omega (arith, q.2, some_words ws (passes ws ok))) q.0

  fan_lawful : (F v A : ℕ) → Suspect (network_of ws) F → v < site_count ws → A < 2 ^ site_count ws → is_some (fan_place ws F v A) ≡ true → Fanned F v A (fan_taken ws F v A)
  fan_lawful F v A s hv ha there = subst (Fanned F v A) (sym (cond-true _ (fan_place ws F v A) None asked)) (fan_fan F v A (fan_place ws F v A) refl there)
    where
      asked : (suspect? (site_count ws) (rogue_limit ws) F && (ltb v (site_count ws) && ltb A (2 ^ site_count ws))) ≡ true
      asked = and_from (suspect? (site_count ws) (rogue_limit ws) F) _
          (and_from (ltb F (2 ^ site_count ws)) _ (lt-ltb F (2 ^ site_count ws) s.below) (le-leb (ones F) (rogue_limit ws) s.few))
          (and_from (ltb v (site_count ws)) _ (lt-ltb v (site_count ws) hv) (lt-ltb A (2 ^ site_count ws) ha))

  pub network_lawful : Lawful (network_of ws)
  network_lawful = record {
    least = (sites_range ws (passes ws ok)).0;
    routes = route_lawful;
    fans = λ F v Z s hv hz out. fan_lawful F v (keeping ws F Z) s hv (keepers_below (site_count ws) (rogue_limit ws) F Z hz) (fan_there ws ok F v Z s.below s.few hv hz out);
  }
