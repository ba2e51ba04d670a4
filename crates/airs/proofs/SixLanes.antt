-- Six lanes side by side, one by one.
use Rattle.std.proofs.Common.{◌≡◌, ℕ, zero, suc, ◌<◌, List, [], ◌∷◌, map, length, get_or, refl, ap, ◌∙◌, arith}
use Rattle.std.proofs.lemmas.List.{get_or-map}
use Rattle.arrayvec.specs.ArrayVec.{ArrayVec}
use Rattle.airs.specs.Lanes.{lane, silent}
use Rattle.airs.specs.SixLanes.{words_of, six_of}

-- of six lanes that a rule gives, each is the rule's
pub lane_by : (rule : ℕ → List ℕ) (s : ℕ) → s < 6 → lane (rule 0 ∷ rule 1 ∷ rule 2 ∷ rule 3 ∷ rule 4 ∷ rule 5 ∷ []) s ≡ rule s
lane_by rule zero h = refl
lane_by rule (suc zero) h = refl
lane_by rule (suc (suc zero)) h = refl
lane_by rule (suc (suc (suc zero))) h = refl
lane_by rule (suc (suc (suc (suc zero)))) h = refl
lane_by rule (suc (suc (suc (suc (suc zero))))) h = refl
lane_by rule (suc (suc (suc (suc (suc (suc n)))))) h = absurd (omega arith)

pub lane_is : (ls : List (ArrayVec ℕ)) (s : ℕ) (d : ArrayVec ℕ) → length ls ≡ 6 → s < 6 → lane (six_of (map words_of ls)) s ≡ words_of (get_or ls s d)
lane_is ls s d e h = let l : s < length ls = omega arith in lane_by (lane (map words_of ls)) s h ∙ get_or-map words_of ls s d [] l

-- six lanes of which each has no words
pub all_silent : (ls : List (ArrayVec ℕ)) → length ls ≡ 6 → ((s : ℕ) → s < 6 → get_or ls s (record { items = [] }) ≡ record { items = [] }) → six_of (map words_of ls) ≡ silent
all_silent ls six h =
    let is = λ (s : ℕ) (l : s < 6). get_or-map words_of ls s (record { items = [] }) [] (omega arith) ∙ ap words_of (h s l) in
    let a : lane (map words_of ls) 0 ≡ [] = is 0 (omega arith) in
    let b : lane (map words_of ls) 1 ≡ [] = is 1 (omega arith) in
    let c : lane (map words_of ls) 2 ≡ [] = is 2 (omega arith) in
    let d : lane (map words_of ls) 3 ≡ [] = is 3 (omega arith) in
    let e : lane (map words_of ls) 4 ≡ [] = is 4 (omega arith) in
    let f : lane (map words_of ls) 5 ≡ [] = is 5 (omega arith) in
    cc
