use Rattle.runs.proofs.calls_fix_the_run.Goals as goal
use Rattle.runs.proofs.Laws.{one_way_law}

pub returns : goal.returns
returns c = one_way_law
