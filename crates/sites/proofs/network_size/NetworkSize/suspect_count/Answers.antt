use Rattle.std.proofs.Common.{arith}
use Rattle.std.proofs.lemmas.Bool.Decides.{nat_tests}
use Rattle.sites.proofs.Table.{number_is}
use Rattle.sites.proofs.network_size.NetworkSize.suspect_count.Goals as goal

pub returns-in-0 : goal.returns-in-0
returns-in-0 c = let e = number_is c.args.self.now.sites c.args.self.now.rogues (omega arith) (omega arith) in grind (arith, nat_tests, e)

pub returns-in-1 : goal.returns-in-1
returns-in-1 c = let e = number_is c.args.self.now.sites c.args.self.now.rogues (omega arith) (omega arith) in grind (arith, nat_tests, e)

pub returns-in_default : goal.returns-in_default
returns-in_default c = let e = number_is c.args.self.now.sites c.args.self.now.rogues (omega arith) (omega arith) in grind (arith, nat_tests, e)
