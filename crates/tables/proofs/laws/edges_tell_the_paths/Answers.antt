use Rattle.tables.proofs.Edges.{edges_law}
use Rattle.tables.proofs.laws.edges_tell_the_paths.Goals as goal

pub returns : goal.returns
returns c = edges_law
