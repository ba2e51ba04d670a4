use Rattle.std.proofs.Common.{◌*◌, ◌≤◌, arith}
use Rattle.std.proofs.lemmas.Nat.{mul-le}
use Rattle.tables.proofs.step.Step.on.Goals as goal

pub overflow_mul-word : goal.overflow_mul-word
overflow_mul-word c =
    let h : c.args.site * c.args.self.now.unit ≤ 5 * c.args.self.now.unit = mul-le c.args.site c.args.self.now.unit 5 c.args.self.now.unit (omega arith) (omega arith) in
    omega arith

pub overflow_add-word-2 : goal.overflow_add-word-2
overflow_add-word-2 c =
    let h : c.args.site * c.args.self.now.unit ≤ 5 * c.args.self.now.unit = mul-le c.args.site c.args.self.now.unit 5 c.args.self.now.unit (omega arith) (omega arith) in
    omega arith
