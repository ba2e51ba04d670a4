use Rattle.std.proofs.Common.{◌+◌, arith}
use Rattle.sheets.specs.Parts.{rogue_limit}
use Rattle.sheets.proofs.Runs.{run_clipped}
use Rattle.sheets.proofs.fans.run_at.Goals as goal

pub returns : goal.returns
returns c = run_clipped c.min-start.result c.min-size.result c.args.place (rogue_limit c.args.words.now + 1) c.args.words.now (omega arith) (omega arith)
