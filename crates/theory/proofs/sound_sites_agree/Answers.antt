use Rattle.theory.proofs.sound_sites_agree.Goals as goal
use Rattle.theory.proofs.Agreement.{agreement_law}

pub returns : goal.returns
returns c = agreement_law
