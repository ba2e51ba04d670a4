-- Weighing: the bit that a site holds when a phase is over. What it heard along each path is given as hear.
use Rattle.std.specs.Prelude.{ℕ, Bool, true, false, cond, not, ◌&&◌, List, [], ◌∷◌, map, ◌==◌}
use Rattle.sites.specs.Sets.{in_set, mask_of}
use Rattle.sites.specs.Lists.{front}
use Rattle.sites.specs.Keepers.{keepers}
use Rattle.theory.specs.Network.{Network}

-- Z, the sites whose bit is 0: for v itself its own bit, for any other site the bit heard along the route taken from there, without v
unfoldable pub zeros : Network → (List ℕ → Bool) → ℕ → Bool → ℕ → ℕ
zeros N hear F own v = mask_of N.n (λ u. not (cond (u == v) own (hear (front (N.route F u v)))))

-- whether each of the bits is b
abbrev pub all_are : Bool → List Bool → Bool
all_are b [] = true
all_are true (x ∷ xs) = x && all_are true xs
all_are false (x ∷ xs) = not x && all_are false xs

-- the common value of some bits; where they differ, or there are none, one's own
unfoldable pub agreed : Bool → List Bool → Bool
agreed own [] = own
agreed own (b ∷ bs) = cond (all_are b bs) b own

-- a site of A keeps its bit; one of B takes the bit that all paths of the fan taken brought, without v, if they brought the same
unfoldable pub weigh : Network → (List ℕ → Bool) → ℕ → Bool → ℕ → Bool
weigh N hear F own v =
    let A : ℕ = keepers N.n N.f F (zeros N hear F own v) in
    cond (in_set A v) own (agreed own (map (λ p. hear (front p)) (N.fan F v A)))
