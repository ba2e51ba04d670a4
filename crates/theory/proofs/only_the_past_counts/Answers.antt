use Rattle.theory.proofs.only_the_past_counts.Goals as goal
use Rattle.theory.proofs.Past.{past_law}

pub returns : goal.returns
returns c = past_law
