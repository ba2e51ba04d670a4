-- Pairs of words that a host has heard, one pair more.
use Rattle.std.proofs.Common.{◌≡◌, ℕ, suc, ◌+◌, ◌*◌, ◌<◌, ◌≤◌, List, [], ◌∷◌, ◌++◌, length, get_or, drop, sym, ap, ◌∙◌, add-one, arith}
use Rattle.std.proofs.lemmas.List.{drop_more, length-drop}
use Rattle.airs.specs.Lanes.{Lanes, put_next}
use Rattle.hosts.specs.Answered.{site_of}
use Rattle.hosts.specs.Ends.{heard_first}

pub heard_more : (ws : List ℕ) (k : ℕ) (was new : Lanes) (s : ℕ) → was ≡ heard_first ws k → s ≡ site_of (get_or ws (2 * k) 0) → new ≡ put_next 120 was s (get_or ws (2 * k + 1) 0) → new ≡ heard_first ws (k + 1)
heard_more ws k was new s e i n =
    n ∙ ap (λ (x : Lanes). put_next 120 x s (get_or ws (2 * k + 1) 0)) e ∙ ap (λ (x : ℕ). put_next 120 (heard_first ws k) x (get_or ws (2 * k + 1) 0)) i
    ∙ ap (heard_first ws) (sym (add-one k))

-- two words read off the words from some place on
pub pair_read : (ws rest pair : List ℕ) (j : ℕ) → drop j ws ≡ pair ++ rest → length pair ≡ 2 → (get_or pair 0 0 ≡ get_or ws j 0) × (get_or pair 1 0 ≡ get_or ws (j + 1) 0) × (rest ≡ drop (j + 2) ws)
pair_read ws rest [] j e l = absurd (omega arith)
pair_read ws rest (x ∷ []) j e l = absurd (omega arith)
pair_read ws rest (x ∷ y ∷ z ∷ zs) j e l = absurd (omega arith)
pair_read ws rest (x ∷ y ∷ []) j e l =
    let long : length (drop j ws) ≡ suc (suc (length rest)) = ap length e in
    let room : j + 2 ≤ length ws = omega (arith, length-drop j ws) in
    let fst : j < length ws = omega arith in
    let snd : j + 1 < length ws = omega arith in
    let two : drop j ws ≡ get_or ws j 0 ∷ get_or ws (j + 1) 0 ∷ drop (j + 2) ws =
    drop_more ws j 0 fst ∙ ap (λ (v : List ℕ). get_or ws j 0 ∷ v) (drop_more ws (j + 1) 0 snd ∙ ap (λ (i : ℕ). get_or ws (j + 1) 0 ∷ drop i ws) (omega arith)) in
    let same : x ∷ y ∷ rest ≡ get_or ws j 0 ∷ get_or ws (j + 1) 0 ∷ drop (j + 2) ws = sym e ∙ two in
    (cc, cc, cc)
