use Rattle.std.proofs.Common.{◌≡◌, drop}
use Rattle.rolgevin.specs.Numbers.{number_on, number_in}
use Rattle.rolgevin.proofs.numbers.number.Given as goal

abbrev pub invariant-loop-byte : goal.invariant-loop-byte
invariant-loop-byte l = number_on l.base l.value (drop l.byte-index l.bytes) ≡ number_in l.base l.bytes
