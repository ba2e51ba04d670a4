-- Numbers as the console reads them.
use Rattle.std.specs.Prelude.{ℕ, ◌+◌, ◌-◌, ◌*◌, ◌^◌, cond, ◌&&◌, List, [], ◌∷◌, drop, Some, None, Option, ◌==◌, nat_le, nat_lt, slice_index}

-- the digit that a byte writes: 0 to 9, A to F or a to f; 16 for any other byte
abbrev pub digit_of : ℕ → ℕ
digit_of b =
    cond (nat_le 48 b && nat_le b 57) (b - 48)
    (cond (nat_le 65 b && nat_le b 70) (b - 65 + 10)
    (cond (nat_le 97 b && nat_le b 102) (b - 97 + 10) 16))

-- a number with one more digit behind it, if that is a digit of the base and the number stays below 2 ^ 32
abbrev pub digit_behind : ℕ → ℕ → ℕ → Option ℕ
digit_behind base n b = cond (nat_lt (digit_of b) base && nat_lt (n * base + digit_of b) (2 ^ 32)) (Some (n * base + digit_of b)) None

abbrev pub go_on : Option ℕ → (ℕ → Option ℕ) → Option ℕ
go_on (Some n) next = next n
go_on None next = None

-- the number that some digits write behind n
abbrev pub number_on : ℕ → ℕ → List ℕ → Option ℕ
number_on base n [] = Some n
number_on base n (b ∷ bs) = go_on (digit_behind base n b) (λ m. number_on base m bs)

-- the number that a text writes; none where it is empty
abbrev pub number_in : ℕ → List ℕ → Option ℕ
number_in base [] = None
number_in base (b ∷ bs) = number_on base 0 (b ∷ bs)

-- a hexadecimal number may have 0x in front
abbrev pub hex_digits : List ℕ → List ℕ
hex_digits bs = cond (slice_index bs 0 == 48 && slice_index bs 1 == 120) (drop 2 bs) bs
