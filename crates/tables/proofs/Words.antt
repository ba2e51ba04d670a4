-- The words of paths that grow.
use Rattle.std.proofs.Common.{◌≡◌, ℕ, zero, suc, ◌+◌, ◌*◌, ◌/◌, ◌^◌, ◌≤◌, List, [], ◌∷◌, ◌++◌, length, refl, arith}
use Rattle.notebooks.specs.Floods.{flood_word}
use Rattle.tables.specs.Entries.{path_word}

-- the weight of the field behind k sites
abbrev pub unit_at : ℕ → ℕ
unit_at zero = 2 ^ 22
unit_at (suc k) = unit_at k / 8

pub word_push : (p : List ℕ) (s : ℕ) → length p ≤ 4 → path_word (p ++ s ∷ []) ≡ path_word p + 2 ^ 25 + s * unit_at (length p)
unfolding flood_word
word_push [] s h = omega arith
word_push (a ∷ []) s h = omega arith
word_push (a ∷ b ∷ []) s h = omega arith
word_push (a ∷ b ∷ c ∷ []) s h = omega arith
word_push (a ∷ b ∷ c ∷ d ∷ []) s h = omega arith
word_push (a ∷ b ∷ c ∷ d ∷ e ∷ p) s h = absurd (omega arith)

pub word_root : path_word [] ≡ 2 ^ 28
unfolding flood_word
word_root = refl
