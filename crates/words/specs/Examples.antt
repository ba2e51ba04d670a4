-- Two words by computation.
use Rattle.std.specs.Prelude.{◌≡◌, [], ◌∷◌, Some, None}
use Rattle.words.specs.declared.kind.Kind.TheVariants.{Flood}
use Rattle.words.specs.Words.{meaning}

pub record WordExamples : Type 0 where
  -- the flood word of the path 1 with bit 1
  pub path_one : meaning 0x12400001 ≡ Some (record { kind = Flood; sites = 1 ∷ []; tail = 1 })
  -- a flood word's tail is a bit
  pub no_bit : meaning 0x12400002 ≡ None
