use Rattle.notebooks.proofs.flood_words_read_back.Goals as goal
use Rattle.notebooks.proofs.Floods.{flood_laws}

pub returns : goal.returns
returns c = flood_laws
