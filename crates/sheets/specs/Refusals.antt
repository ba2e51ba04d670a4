-- What the check answers: the upper row first, and a row covers the whole sheet before the next begins.
use Rattle.std.specs.Prelude.{ℕ, List, Some, None, Ok, Err, Option, Result}
use Rattle.sites.specs.declared.refusal.Refusal.{Refusal}
use Rattle.sites.specs.declared.refusal.Refusal.TheVariants.{SheetSize, Head, Kind, Edge, Path, Fan}
use Rattle.sheets.specs.declared.refusal.SheetRefusal.{SheetRefusal}
use Rattle.sheets.specs.Rows.{size_fault, head_fault, kind_fault, edge_fault, path_fault, fan_fault}

-- a row's answer: its refusal with the place, if it found one
abbrev pub told : Refusal → Option ℕ → Result (Unit {0}) SheetRefusal
told refusal (Some k) = Err (record { refusal = refusal; place = k })
told refusal None = Ok tt

-- one row, and where it finds nothing the next
abbrev pub and_then : Result (Unit {0}) SheetRefusal → Result (Unit {0}) SheetRefusal → Result (Unit {0}) SheetRefusal
and_then (Ok _) next = next
and_then (Err e) next = Err e

-- rows 1 to 6: what a reader opens by
abbrev pub well_formed : List ℕ → Result (Unit {0}) SheetRefusal
well_formed ws =
    and_then (told SheetSize (size_fault ws))
    (and_then (told Head (head_fault ws))
    (and_then (told Kind (kind_fault ws))
    (and_then (told Edge (edge_fault ws))
    (and_then (told Path (path_fault ws))
    (told Fan (fan_fault ws))))))
