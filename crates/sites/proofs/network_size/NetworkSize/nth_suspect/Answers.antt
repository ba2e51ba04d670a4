use Rattle.std.proofs.Common.{◌-◌, arith}
use Rattle.std.proofs.lemmas.Nat.{one_shl}
use Rattle.std.proofs.lemmas.Bool.Decides.{nat_tests}
use Rattle.sites.proofs.Table.{nth_is}
use Rattle.sites.proofs.network_size.NetworkSize.nth_suspect.Goals as goal

pub returns-then-k-n : goal.returns-then-k-n
returns-then-k-n c = let e = one_shl (c.args.k - 1) 32 (omega arith) in grind (arith, nat_tests, nth_is, e)
