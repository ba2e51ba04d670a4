-- Examples: the triangle and the pair, and the table of the sites that keep their bits.
use Rattle.std.specs.Prelude.{◌≡◌, ℕ, zero, suc, Bool, true, false, not, ◌&&◌, List, [], ◌∷◌, map, take, filter, ◌==◌, nat_lt}
use Rattle.std.specs.List.{range_with_len}
use Rattle.sites.specs.Sets.{in_set}
use Rattle.sites.specs.Keepers.{keepers}
use Rattle.theory.specs.Network.{Network, Lawful}
use Rattle.theory.specs.Flooding.{Word, Said}
use Rattle.theory.specs.Runs.{holds, play}

-- n sites, all joined: each route is one edge, and each fan comes straight from the f + 1 lowest other sites of A
abbrev pub all_joined : ℕ → ℕ → Network
all_joined n f = record {
  n = n;
  f = f;
  joined = λ u v. not (u == v) && (nat_lt u n && nat_lt v n);
  route = λ F u v. u ∷ v ∷ [];
  fan = λ F v A. take (suc f) (map (λ u. u ∷ v ∷ []) (filter (λ u. in_set A u && not (u == v)) (range_with_len 0 n)));
}

abbrev pub triangle : Network
triangle = all_joined 3 1

abbrev pub pair : Network
pair = all_joined 2 0

-- site 0 opens with 0, any other with 1
abbrev pub opening : ℕ → Bool
opening zero = false
opening (suc s) = true

-- the empty path with a bit
abbrev pub floods : Bool → Word
floods b = record { path = []; bit = b }

-- some words in the first turn, and nothing later
abbrev pub at_first : List Word → Said
at_first ws zero v = ws
at_first ws (suc t) v = []

-- the bit that v holds on the triangle after some turns, where site 2 is rogue and says these words in the first turn, and nothing later
abbrev pub triangle_holds : List Word → ℕ → ℕ → Bool
triangle_holds ws turns v = holds triangle (play triangle 4 opening (at_first ws)) opening turns v

-- the bit that v holds on the pair, with no rogue
abbrev pub pair_holds : ℕ → ℕ → Bool
pair_holds turns v = holds pair (play pair 0 opening (at_first [])) opening turns v

pub record TriangleAndPair : Type 0 where
  -- the laws speak of both
  pub triangle_lawful : Lawful triangle
  pub pair_lawful : Lawful pair
  -- the rogue floods 1: after the first phase both sound sites hold 1, and at the end of the last they do
  pub one : (triangle_holds (floods true ∷ []) 2 0 ≡ true) × (triangle_holds (floods true ∷ []) 2 1 ≡ true)
  pub one_at_last : (triangle_holds (floods true ∷ []) 8 0 ≡ true) × (triangle_holds (floods true ∷ []) 8 1 ≡ true)
  -- it floods 0 and then 1: the first counts, and both hold 0
  pub zero_first : (triangle_holds (floods false ∷ floods true ∷ []) 2 0 ≡ false) × (triangle_holds (floods false ∷ floods true ∷ []) 2 1 ≡ false)
  -- it says nothing: silence is a 1, and both hold 1
  pub silence : (triangle_holds [] 2 0 ≡ true) × (triangle_holds [] 2 1 ≡ true)
  -- the pair, with bits 0 and 1: one turn, and both hold 1
  pub pair_one : (pair_holds 1 0 ≡ true) × (pair_holds 1 1 ≡ true)

-- the four rows of the table, for four sites and one rogue at most, where half of f, rounded down, is 0; the masks are in binary
pub record Table : Type 0 where
  pub few_zeros_suspected : keepers 4 1 0b0000 0b0011 ≡ 0b1100
  pub few_ones_left : keepers 4 1 0b0000 0b0111 ≡ 0b0111
  pub zeros_suspected : keepers 4 1 0b0001 0b0011 ≡ 0b0011
  pub few_zeros_left : keepers 4 1 0b0001 0b0001 ≡ 0b1110
