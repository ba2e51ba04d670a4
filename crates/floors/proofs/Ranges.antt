-- A test of each number of a range is a test over positions.
use Rattle.std.proofs.Common.{◌≡◌, ℕ, zero, suc, ◌+◌, Bool, true, false, cond, ◌&&◌, refl}
use Rattle.std.specs.List.{list_all, range_with_len}
use Rattle.sites.specs.Positions.{all_from}

both : (b x y : Bool) → x ≡ y → (b && x) ≡ cond b y false
both true x y e = e
both false x y e = refl

pub range_all : (p : ℕ → Bool) (i n : ℕ) → list_all p (range_with_len i n) ≡ all_from p i n
range_all p i zero = refl
range_all p i (suc n) = both (p i) _ _ (range_all p (i + 1) n)
