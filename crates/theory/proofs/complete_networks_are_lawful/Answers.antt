use Rattle.theory.proofs.complete_networks_are_lawful.Goals as goal
use Rattle.theory.proofs.Complete.{complete_law}

pub returns : goal.returns
returns c = complete_law
