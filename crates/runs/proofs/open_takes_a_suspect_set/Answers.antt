use Rattle.runs.proofs.open_takes_a_suspect_set.Goals as goal
use Rattle.runs.proofs.Laws.{open_law}

pub returns : goal.returns
returns c = open_law
