-- The 32 bits of a path word, from the highest: the kind in bits 31 to 28, the number of sites in 27 to 25,
-- six fields of three bits in 24 to 7 with the first site first, zeros in 6 to 4, the tail in 3 to 0.
use Rattle.std.specs.Prelude.{ℕ, ◌+◌, ◌*◌, ◌/◌, ◌%◌, ◌^◌, List, [], ◌∷◌, length, take, slice_index}

abbrev pub kind_field : ℕ → ℕ
kind_field w = w / 2 ^ 28

abbrev pub count_field : ℕ → ℕ
count_field w = w / 2 ^ 25 % 8

abbrev pub site_fields : ℕ → List ℕ
site_fields w = w / 2 ^ 22 % 8 ∷ w / 2 ^ 19 % 8 ∷ w / 2 ^ 16 % 8 ∷ w / 2 ^ 13 % 8 ∷ w / 2 ^ 10 % 8 ∷ w / 2 ^ 7 % 8 ∷ []

abbrev pub spare_field : ℕ → ℕ
spare_field w = w / 2 ^ 4 % 8

abbrev pub tail_field : ℕ → ℕ
tail_field w = w % 16

-- the sites that a word names: as many fields as it counts
abbrev pub path_field : ℕ → List ℕ
path_field w = take (count_field w) (site_fields w)

-- six fields below what stands above them
abbrev pub with_fields : ℕ → List ℕ → ℕ
with_fields top sites =
    (((((top * 8 + slice_index sites 0) * 8 + slice_index sites 1) * 8 + slice_index sites 2) * 8 + slice_index sites 3) * 8 + slice_index sites 4) * 8 + slice_index sites 5

-- the word of a kind, a path and a tail; the fields past the path's end are zero
abbrev pub packed : ℕ → List ℕ → ℕ → ℕ
packed kind sites tail = with_fields (kind * 8 + length sites) sites * 128 + tail
