-- The suspect sets as the program computes them: a table of all n and f, by computation.
use Rattle.std.proofs.Common.{◌≡◌, ℕ, ◌+◌, ◌-◌, ◌*◌, ◌/◌, ◌^◌, ◌<◌, Bool, true, cond, ◌&&◌, eqb, ltb, leb, List, [], ◌∷◌, length, get_or, refl, arith}
use lib.Count.{ones}
use Rattle.std.proofs.lemmas.Bool.{and_parts, eqb-true, ltb-true}
use Rattle.sites.specs.Positions.{all_from}
use Rattle.sites.specs.Suspects.{sized, suspects}
use Rattle.sites.proofs.Positions.{all_at}

abbrev pub pairs : List ℕ
pairs = 3 ∷ 5 ∷ 6 ∷ 9 ∷ 10 ∷ 12 ∷ 17 ∷ 18 ∷ 20 ∷ 24 ∷ 33 ∷ 34 ∷ 36 ∷ 40 ∷ 48 ∷ []

-- the k-th set and the number of sets, as they are computed
abbrev pub nth : ℕ → ℕ → ℕ
nth n k = cond (eqb k 0) 0 (cond (leb k n) (2 ^ (k - 1)) (get_or pairs (k - n - 1) 0))

abbrev pub number : ℕ → ℕ → ℕ
number n f = cond (eqb f 0) 1 (cond (eqb f 1) (1 + n) (1 + n * (n + 1) / 2))

abbrev set_right : ℕ → ℕ → ℕ → Bool
set_right n f k = eqb (nth n k) (get_or (suspects n f) k 0) && ltb (k - n - 1) 15

abbrev all_right : ℕ → ℕ → Bool
all_right n f = eqb (number n f) (length (suspects n f)) && all_from (set_right n f) 0 (length (suspects n f))

-- every case, by computation
table : all_from (λ n. all_from (all_right n) 0 3) 0 7 ≡ true
unfolding ones sized suspects
table = refl

row : (n f : ℕ) → n < 7 → f < 3 → all_right n f ≡ true
row n f hn hf = all_at (all_right n) 0 3 (all_at (λ n. all_from (all_right n) 0 3) 0 7 table n (omega arith) (omega arith)) f (omega arith) (omega arith)

pub number_is : (n f : ℕ) → n < 7 → f < 3 → number n f ≡ length (suspects n f)
number_is n f hn hf = eqb-true (number n f) (length (suspects n f)) (and_parts (eqb (number n f) (length (suspects n f))) _ (row n f hn hf)).0

place : (n f k : ℕ) → n < 7 → f < 3 → k < length (suspects n f) → set_right n f k ≡ true
place n f k hn hf hk = all_at (set_right n f) 0 (length (suspects n f)) (and_parts (eqb (number n f) (length (suspects n f))) _ (row n f hn hf)).1 k (omega arith) (omega arith)

pub nth_is : (n f k : ℕ) → n < 7 → f < 3 → k < length (suspects n f) → nth n k ≡ get_or (suspects n f) k 0
nth_is n f k hn hf hk = eqb-true (nth n k) (get_or (suspects n f) k 0) (and_parts (eqb (nth n k) (get_or (suspects n f) k 0)) _ (place n f k hn hf hk)).0

pub pair_within : (n f k : ℕ) → n < 7 → f < 3 → k < length (suspects n f) → k - n - 1 < 15
pair_within n f k hn hf hk = ltb-true (k - n - 1) 15 (and_parts (eqb (nth n k) (get_or (suspects n f) k 0)) _ (place n f k hn hf hk)).1
