use Rattle.runs.proofs.refused_calls_change_nothing.Goals as goal
use Rattle.runs.proofs.Laws.{refused_law}

pub returns : goal.returns
returns c = refused_law
