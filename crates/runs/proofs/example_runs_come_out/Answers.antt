use Rattle.runs.proofs.example_runs_come_out.Goals as goal
use Rattle.runs.proofs.Examples.{examples}

pub returns : goal.returns
returns c = examples
