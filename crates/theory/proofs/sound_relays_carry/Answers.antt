use Rattle.theory.proofs.sound_relays_carry.Goals as goal
use Rattle.theory.proofs.Relays.{relay_law}

pub returns : goal.returns
returns c = relay_law
