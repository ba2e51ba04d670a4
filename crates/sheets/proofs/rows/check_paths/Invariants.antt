use Rattle.std.proofs.Common.{◌≡◌, ◌-◌, length}
use Rattle.sites.specs.Positions.{first_from}
use Rattle.sheets.specs.Rows.{bad_path, path_fault}
use Rattle.sheets.proofs.rows.check_paths.Given as goal

abbrev pub invariant-loop-i : goal.invariant-loop-i
invariant-loop-i l = first_from (bad_path l.words) l.i (length l.words - l.i) ≡ path_fault l.words
