-- A run of pairs, one pair at a time.
use Rattle.std.proofs.Common.{◌≡◌, ℕ, zero, suc, ◌+◌, ◌-◌, ◌*◌, ◌<◌, ◌≤◌, Bool, true, false, cond, List, [], ◌∷◌, ◌++◌, map, length, get_or, take, set, sum, filter, sym, refl, ap, ◌∙◌, subst, ⊎_elim, add-zero, arith}
use Rattle.std.proofs.lemmas.List.{append-nil, map-append, length-append, get_or_append_left, get_or_push, get_or-set_same, get_or-set_other, length-set, take_more_set}
use Rattle.std.proofs.lemmas.List.Elements.{filter-append}
use Rattle.std.proofs.ByRecursion.{All-set, All-from_get_or, sum_by_le}
use Rattle.std.proofs.lemmas.List.Sums.{sum_by-set}
use Rattle.std.proofs.lemmas.Bool.{eq-eqb, ne_eqb, cases_eq, cases_lt}
use Rattle.airs.specs.Lanes.{lane, added}
use Rattle.airs.specs.Runs.{word_for_site, pair_of, no_pair, by_site, lane_of, run_lanes, Named, Sited, places_of, Filed}
use Rattle.airs.specs.declared.entry.Entry.{Entry}

abbrev word_of : Entry → ℕ
word_of e = e.word

pub lane_run : (es : List Entry) (s : ℕ) → s < 6 → lane (run_lanes es) s ≡ lane_of s es
lane_run es zero h = refl
lane_run es (suc zero) h = refl
lane_run es (suc (suc zero)) h = refl
lane_run es (suc (suc (suc zero))) h = refl
lane_run es (suc (suc (suc (suc zero)))) h = refl
lane_run es (suc (suc (suc (suc (suc zero))))) h = refl
lane_run es (suc (suc (suc (suc (suc (suc n)))))) h = absurd (omega arith)

-- a pair more is a word more in the lane of its site, and in no other
pub run_push : (es : List Entry) (s w : ℕ) → s < 6 → run_lanes (es ++ pair_of s w ∷ []) ≡ added (run_lanes es) s (w ∷ [])
run_push es zero w h = simp (filter-append, map-append, append-nil)
run_push es (suc zero) w h = simp (filter-append, map-append, append-nil)
run_push es (suc (suc zero)) w h = simp (filter-append, map-append, append-nil)
run_push es (suc (suc (suc zero))) w h = simp (filter-append, map-append, append-nil)
run_push es (suc (suc (suc (suc zero)))) w h = simp (filter-append, map-append, append-nil)
run_push es (suc (suc (suc (suc (suc zero))))) w h = simp (filter-append, map-append, append-nil)
run_push es (suc (suc (suc (suc (suc (suc n)))))) w h = absurd (omega arith)

pub sited_push : (es : List Entry) (s w : ℕ) → s < 6 → Sited es → Sited (es ++ pair_of s w ∷ [])
sited_push es s w h all k below =
    ⊎_elim
    (λ l. subst Named (sym (get_or_append_left es (pair_of s w ∷ []) no_pair k l)) (all k l))
    (λ l.
    let e : length es ≡ k = omega (arith, length-append es (pair_of s w ∷ [])) in
    let P : Named (pair_of s w) = (omega arith, omega arith) in
    subst Named (sym (get_or_push es (pair_of s w) no_pair k e)) P)
    (cases_lt k (length es))

-- a site has as many places as words
length_step : (b : Bool) (i : ℕ) (e : Entry) (ps : List ℕ) (ks : List Entry) → length ps ≡ length (map word_of ks) → length (cond b (i ∷ ps) ps) ≡ length (map word_of (cond b (e ∷ ks) ks))
length_step true i e ps ks h = ap suc h
length_step false i e ps ks h = h

pub length_places : (s i : ℕ) (es : List Entry) → length (places_of s i es) ≡ length (lane_of s es)
length_places s i [] = refl
length_places s i (e ∷ es) = length_step (by_site s e) i e (places_of s (i + 1) es) (filter (by_site s) es) (length_places s (i + 1) es)

-- a pair more is a place more for its site, and for no other
push_step : (b : Bool) (i : ℕ) (a p q : List ℕ) → a ≡ p ++ q → cond b (i ∷ a) a ≡ cond b (i ∷ p) p ++ q
push_step true i a p q h = ap (λ x. i ∷ x) h
push_step false i a p q h = h

places_push : (s i : ℕ) (es : List Entry) (e : Entry) → places_of s i (es ++ e ∷ []) ≡ places_of s i es ++ cond (by_site s e) ((i + length es) ∷ []) []
places_push s i [] e = ap (λ n. cond (by_site s e) (n ∷ []) []) (sym (add-zero i))
places_push s i (x ∷ es) e =
    let n : (i + 1) + length es ≡ i + suc (length es) = omega arith in
    push_step (by_site s x) i _ (places_of s (i + 1) es) _
    (places_push s (i + 1) es e ∙ ap (λ m. places_of s (i + 1) es ++ cond (by_site s e) (m ∷ []) []) n)

-- the pair at place p of a run whose first pair has place i has the word w
abbrev pub Found : ℕ → ℕ → List Entry → ℕ → Type 0
Found i p es w = (i ≤ p) × (p < i + length es) × ((get_or es (p - i) no_pair).word ≡ w)

found_here : (i : ℕ) (e : Entry) (es : List Entry) → Found i i (e ∷ es) e.word
found_here i e es = let z : i - i ≡ 0 = omega arith in (omega arith, omega arith, rw z)

found_later : (i p w : ℕ) (e : Entry) (es : List Entry) → Found (i + 1) p es w → Found i p (e ∷ es) w
found_later i p w e es f =
    let z : p - i ≡ suc (p - (i + 1)) = omega (arith, f.0) in
    (omega (arith, f.0), omega (arith, f.1), rw z f.2)

found_step : (b : Bool) (i : ℕ) (e : Entry) (es : List Entry) (ps : List ℕ) (ks : List Entry) → ((k : ℕ) → k < length ps → Found (i + 1) (get_or ps k 0) es (get_or (map word_of ks) k 0)) → (k : ℕ) → k < length (cond b (i ∷ ps) ps) → Found i (get_or (cond b (i ∷ ps) ps) k 0) (e ∷ es) (get_or (map word_of (cond b (e ∷ ks) ks)) k 0)
found_step true i e es ps ks h zero l = found_here i e es
found_step true i e es ps ks h (suc k) l = found_later i (get_or ps k 0) _ e es (h k (omega arith))
found_step false i e es ps ks h k l = found_later i (get_or ps k 0) _ e es (h k l)

-- the word at each place of a site is the word of its lane
pub found : (s i : ℕ) (es : List Entry) (k : ℕ) → k < length (places_of s i es) → Found i (get_or (places_of s i es) k 0) es (get_or (lane_of s es) k 0)
found s i [] k l = absurd (omega arith)
found s i (e ∷ es) k l = found_step (by_site s e) i e es (places_of s (i + 1) es) (filter (by_site s) es) (found s (i + 1) es) k l

-- one place more for a site is noted in its row, and in no other
pub filed_push : (counts : List ℕ) (places : List (List ℕ)) (es : List Entry) (s w len : ℕ) → length counts ≡ 6 → length places ≡ 6 → s < 6 → get_or counts s 0 < length (get_or places s []) → length es ≡ len → Filed counts places es → Filed (set counts s (get_or counts s 0 + 1)) (set places s (set (get_or places s []) (get_or counts s 0) len)) (es ++ pair_of s w ∷ [])
filed_push counts places es s w len six-c six-p h room e all q below =
    let c = get_or counts s 0 in
    let row = get_or places s [] in
    ⊎_elim
    (λ t.
    let lc : q < length counts = omega arith in
    let lp : q < length places = omega arith in
    let a : get_or (set counts s (c + 1)) q 0 ≡ c + 1 = subst (λ x. get_or (set counts x (c + 1)) q 0 ≡ c + 1) t (get_or-set_same counts q (c + 1) 0 lc) in
    let b : get_or (set places s (set row c len)) q [] ≡ set row c len = subst (λ x. get_or (set places x (set row c len)) q [] ≡ set row c len) t (get_or-set_same places q (set row c len) [] lp) in
    let y : by_site q (pair_of s w) ≡ true = eq-eqb (word_for_site s) (word_for_site q) (ap word_for_site (sym t)) in
    let f : take c row ≡ places_of q 0 es = subst (λ x. take c row ≡ places_of x 0 es) (sym t) (all s h) in
    let z : 0 + length es ≡ len = omega arith in
    ap (λ n. take n (get_or (set places s (set row c len)) q [])) a
    ∙ ap (take (c + 1)) b
    ∙ take_more_set row c len room
    ∙ ap (λ x. x ++ len ∷ []) f
    ∙ ap (λ n. places_of q 0 es ++ n ∷ []) (sym z)
    ∙ ap (λ v. places_of q 0 es ++ cond v ((0 + length es) ∷ []) []) (sym y)
    ∙ sym (places_push q 0 es (pair_of s w)))
    (λ t.
    let a = get_or-set_other counts s q (c + 1) 0 t in
    let b = get_or-set_other places s q (set row c len) [] t in
    let y : by_site q (pair_of s w) ≡ false = ne_eqb (word_for_site s) (word_for_site q) (λ u. t (omega (arith, u))) in
    ap (λ n. take n (get_or (set places s (set row c len)) q [])) a
    ∙ ap (take (get_or counts q 0)) b
    ∙ all q below
    ∙ sym (append-nil (places_of q 0 es))
    ∙ ap (λ v. places_of q 0 es ++ cond v ((0 + length es) ∷ []) []) (sym y)
    ∙ sym (places_push q 0 es (pair_of s w)))
    (cases_eq q s)

-- one more of one of some counts, none above n: their sum
pub sum_more : (cs : List ℕ) (s : ℕ) → s < length cs → sum (set cs s (get_or cs s 0 + 1)) ≡ sum cs + 1
sum_more cs s h = omega (arith, sum_by-set (λ x. x) cs s (get_or cs s 0 + 1) 0 h)

pub sum_room : (n : ℕ) (cs : List ℕ) (s : ℕ) → s < length cs → ((q : ℕ) → q < length cs → get_or cs q 0 ≤ n) → get_or cs s 0 < n → sum cs + 1 ≤ length cs * n
sum_room n cs s h all below =
    let more = set cs s (get_or cs s 0 + 1) in
    let a = All-set (λ x. x ≤ n) cs s (get_or cs s 0 + 1) (omega arith) (All-from_get_or (λ x. x ≤ n) cs 0 all) in
    subst (λ x. x ≤ length cs * n) (sum_more cs s h) (subst (λ x. sum more ≤ x * n) (length-set cs s (get_or cs s 0 + 1)) (sum_by_le (λ x. x) n more a))

-- what holds of each of n elements, after a write of one
pub set_keeps : {X : Type 0} (P : X → Type 0) (n : ℕ) (xs : List X) (s : ℕ) (x d : X) → length xs ≡ n → P x → ((q : ℕ) → q < n → P (get_or xs q d)) → (q : ℕ) → q < n → P (get_or (set xs s x) q d)
set_keeps P n xs s x d e here all q below =
    ⊎_elim
    (λ t. let l : q < length xs = omega arith in subst (λ i. P (get_or (set xs i x) q d)) t (subst P (sym (get_or-set_same xs q x d l)) here))
    (λ t. subst P (sym (get_or-set_other xs s q x d t)) (all q below))
    (cases_eq q s)
