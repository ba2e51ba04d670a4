-- The word of round 1.
use Rattle.std.proofs.Common.{◌≡◌, Bool, true, false, cond, [], refl}
use Rattle.notebooks.specs.Floods.{flood_word}

-- the word of the empty path
pub opening : (b : Bool) → flood_word (record { path = []; bit = b }) ≡ cond b 0x10000001 0x10000000
unfolding flood_word
opening true = refl
opening false = refl
