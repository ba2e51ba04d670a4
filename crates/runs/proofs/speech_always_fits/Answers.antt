use Rattle.runs.proofs.speech_always_fits.Goals as goal
use Rattle.runs.proofs.Guarantee.{room_law}

pub returns : goal.returns
returns c = room_law
