use Rattle.runs.proofs.guarantee_holds.Goals as goal
use Rattle.runs.proofs.Guarantee.{guarantee_law}

pub returns : goal.returns
returns c = guarantee_law
