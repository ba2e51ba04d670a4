use Rattle.theory.proofs.phases_keep_sound_bits.Goals as goal
use Rattle.theory.proofs.Agreement.{phase_law}

pub returns : goal.returns
returns c = phase_law
