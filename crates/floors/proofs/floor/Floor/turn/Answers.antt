use Rattle.std.proofs.Common.{sym, arith}
use Rattle.floors.proofs.Turns.{few_turns}
use Rattle.floors.proofs.floor.Floor.turn.Goals as goal

pub overflow_add-self : goal.overflow_add-self
overflow_add-self g c = let h = few_turns c.args.self.now.ground.base c.args.self.now.turns (sym c.if-is_over.ensures) in omega arith
