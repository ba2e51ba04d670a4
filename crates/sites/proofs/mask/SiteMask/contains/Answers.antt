use Rattle.std.proofs.Common.{◌≡◌, ◌/◌, ◌^◌, ◌≤◌, arith, pow_mono}
use native.Mathlib.Nat.{div-eq_of_lt}
use Rattle.std.proofs.lemmas.Bool.Decides.{nat_tests}
use Rattle.sites.proofs.mask.SiteMask.contains.Goals as goal

-- a site past the mask's 32 bits is in no set
pub returns-else-site-lt32 : goal.returns-else-site-lt32
returns-else-site-lt32 c =
    let p : 2 ^ 32 ≤ 2 ^ c.args.site = pow_mono {i = 32} (omega arith) in
    let z : c.args.self.now.bits / 2 ^ c.args.site ≡ 0 = div-eq_of_lt (omega arith) in
    rw z (grind (arith, nat_tests))
