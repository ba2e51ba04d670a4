-- Two sheets, and what the check answers to them and to parts of them.
use Rattle.std.specs.Prelude.{◌≡◌, ℕ, List, [], ◌∷◌, ◌++◌, take, drop, Ok, Err, Result}
use Rattle.sites.specs.declared.refusal.Refusal.{Refusal}
use Rattle.sites.specs.declared.refusal.Refusal.TheVariants.{SheetSize, Edge, Fan, NoRoute, NoFan}
use Rattle.sheets.specs.declared.refusal.SheetRefusal.{SheetRefusal}
use Rattle.plans.specs.Complete.{judged}

-- two sites and no rogue: the sheet that is built in
abbrev pub pair : List ℕ
pair = 0x80000020 ∷ 0x90000001 ∷ 0xA4080000 ∷ 0xA4400000 ∷ 0xB4080000 ∷ 0xB4400000 ∷ []

-- three sites, each joined to the others, of which one may be rogue
abbrev pub triangle : List ℕ
triangle =
    0x80000031 ∷ 0x90000001 ∷ 0x90000002 ∷ 0x9000000A
    ∷ 0xA4080000 ∷ 0xA4100000 ∷ 0xA4400000 ∷ 0xA4500000 ∷ 0xA4800000 ∷ 0xA4880000
    ∷ 0xB4400000 ∷ 0xB4800000 ∷ 0xB4080000 ∷ 0xB4880000 ∷ 0xB4100000 ∷ 0xB4500000 ∷ []

abbrev pub refused : Refusal → ℕ → Result (Unit {0}) SheetRefusal
refused refusal place = Err (record { refusal = refusal; place = place })

pub record SheetExamples : Type 0 where
  -- both sheets pass every check
  pub pair_passes : judged pair ≡ Ok tt
  pub triangle_passes : judged triangle ≡ Ok tt
  -- without its last word: a fan is short, from place 14 on
  pub short_fan : judged (take 15 triangle) ≡ refused Fan 14
  -- without its last two words: the empty set has no fan
  pub no_fan : judged (take 14 triangle) ≡ refused NoFan 0
  -- without the route from 2 to 1: the empty set has no route
  pub no_route : judged (take 9 triangle ++ drop 10 triangle) ≡ refused NoRoute 0
  -- with the edges at 2 and 3 exchanged: they do not ascend at 3
  pub edges_exchanged : judged (0x80000031 ∷ 0x90000001 ∷ 0x9000000A ∷ 0x90000002 ∷ drop 4 triangle) ≡ refused Edge 3
  -- no words
  pub nothing : judged [] ≡ refused SheetSize 0
