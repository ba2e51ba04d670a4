use Rattle.notebooks.proofs.notebooks_show_what_was_heard.Goals as goal
use Rattle.notebooks.proofs.Notebooks.{notebook_law}

pub returns : goal.returns
returns c = notebook_law
