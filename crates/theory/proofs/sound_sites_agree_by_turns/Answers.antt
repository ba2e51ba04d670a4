use Rattle.theory.proofs.sound_sites_agree_by_turns.Goals as goal
use Rattle.theory.proofs.Agreement.{turns_law}

pub returns : goal.returns
returns c = turns_law
