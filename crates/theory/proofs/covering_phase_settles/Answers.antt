use Rattle.theory.proofs.covering_phase_settles.Goals as goal
use Rattle.theory.proofs.Agreement.{settled_law}

pub returns : goal.returns
returns c = settled_law
