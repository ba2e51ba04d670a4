use Rattle.theory.proofs.some_phase_covers.Goals as goal
use Rattle.theory.proofs.Agreement.{cover_law}

pub returns : goal.returns
returns c = cover_law
