use Rattle.theory.proofs.expected_paths_follow_the_rule.Goals as goal
use Rattle.theory.proofs.Counts.{expected_law}

pub returns : goal.returns
returns c = expected_law
