use Rattle.theory.proofs.rogues_fix_the_run.Goals as goal
use Rattle.theory.proofs.Play.{one_run_law}

pub returns : goal.returns
returns c = one_run_law
