-- Plans: the sheet and the network of one, and what loading one answers.
use Rattle.std.specs.Prelude.{◌≡◌, ℕ, ◌^◌, ◌<◌, false, List, take, Ok, Err, Result, ◌≢◌}
use Rattle.sheets.specs.declared.refusal.SheetRefusal.{SheetRefusal}
use Rattle.sites.specs.Sets.{in_set}
use Rattle.sites.specs.Keepers.{keepers}
use Rattle.theory.specs.Network.{Network, Suspect, Way, Fan}
use Rattle.plans.specs.declared.plan.Plan.{Plan}
use Rattle.plans.specs.Complete.{judged}
use Rattle.plans.specs.Taken.{network_of}

-- the sheet that a plan is a copy of
abbrev pub sheet : Plan → List ℕ
sheet p = take p.len p.words

-- the plan as a network: what is above plans speaks of this, and not of sheets
unfoldable pub network : Plan → Network
network p = network_of (sheet p)

-- what loading a sheet answers: a copy of it where it passes every check, else the refusal
abbrev pub Loads : List ℕ → Result Plan SheetRefusal → Type 0
Loads ws (Ok p) = (judged ws ≡ Ok tt) × (sheet p ≡ ws)
Loads ws (Err e) = judged ws ≡ Err e

-- what loading a sheet over a plan in hand answers and leaves: where it is refused, the old plan stands
abbrev pub Reloads : List ℕ → Plan → Plan → Result (Unit {0}) SheetRefusal → Type 0
Reloads ws old new (Ok _) = (judged ws ≡ Ok tt) × (sheet new ≡ ws)
Reloads ws old new (Err e) = (judged ws ≡ Err e) × (new ≡ old)

-- a path is the route asked for, where F is a suspect set and u and v are different sites
abbrev pub Routes : Network → ℕ → ℕ → ℕ → List ℕ → Type 0
Routes N F u v p = Suspect N F → u < N.n → v < N.n → (u ≢ v) → Way N F u v p

-- some paths are the fan asked for, where F is a suspect set, A keep their bits for some Z and v is a site that does not
abbrev pub FansAt : Network → ℕ → ℕ → ℕ → List (List ℕ) → Type 0
FansAt N F v A ps = (Z : ℕ) → Suspect N F → v < N.n → Z < 2 ^ N.n → A ≡ keepers N.n N.f F Z → in_set A v ≡ false → Fan N F v A ps
