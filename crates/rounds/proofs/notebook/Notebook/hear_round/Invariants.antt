use Rattle.std.proofs.Common.{◌≡◌}
use Rattle.rounds.specs.Ears.{Tuned}
use Rattle.rounds.proofs.Notes.{noted_up}
use Rattle.rounds.proofs.notebook.Notebook.hear_round.Given as goal

abbrev pub invariant-loop-i : goal.invariant-loop-i
invariant-loop-i g l =
    Tuned (g.A.Air.lanes l.air) l.ears × (l.self.words ≡ noted_up (g.A.Air.lanes l.air) l.start l.paths l.i l.initial.self.words)
