-- What the path words of row 5 answer, one by one.
use Rattle.std.specs.Prelude.{◌≡◌, ℕ, ◌+◌, ◌-◌, Bool, cond, ◌&&◌, List, length, Some, None, Ok, Err, Result, nat_lt, slice_index}
use Rattle.sites.specs.declared.refusal.Refusal.TheVariants.{Path}
use Rattle.sites.specs.Positions.{all_from}
use Rattle.words.specs.declared.path.PathWord.{PathWord}
use Rattle.words.specs.Words.{meaning, meaning_of}
use Rattle.sheets.specs.declared.refusal.SheetRefusal.{SheetRefusal}
use Rattle.sheets.specs.Parts.{word_at, site_count, joined}
use Rattle.sheets.specs.Rows.{bad_path}
use Rattle.sheets.specs.Refusals.{told}

-- the path word at a place, or the word reader's refusal with that place
abbrev pub ReadsAt : List ℕ → ℕ → Result PathWord SheetRefusal → Type 0
ReadsAt ws i (Ok p) = meaning (word_at ws i) ≡ Some (meaning_of p)
ReadsAt ws i (Err e) = (meaning (word_at ws i) ≡ None) × (e ≡ record { refusal = Path; place = i })

-- sites below n, successive ones joined
abbrev pub wired : List ℕ → List ℕ → Bool
wired ws sites =
    all_from (λ j. nat_lt (slice_index sites j) (site_count ws)) 0 (length sites)
    && all_from (λ j. joined ws (slice_index sites j) (slice_index sites (j + 1))) 0 (length sites - 1)

-- one place of row 5
abbrev pub path_told : List ℕ → ℕ → Result (Unit {0}) SheetRefusal
path_told ws i = told Path (cond (bad_path ws i) (Some i) None)
