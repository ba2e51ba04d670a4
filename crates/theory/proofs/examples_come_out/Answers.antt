use Rattle.theory.proofs.examples_come_out.Goals as goal
use Rattle.theory.proofs.Examples.{triangle_and_pair, table}

pub returns : goal.returns
returns c = (triangle_and_pair, table)
