use Rattle.rounds.proofs.Alike.{alike_law}
use Rattle.rounds.proofs.laws.edges_tell_the_notebook.Goals as goal

pub returns : goal.returns
returns c = alike_law
