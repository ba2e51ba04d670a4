-- The sheet that a host hands to a call.
use Rattle.std.specs.Prelude.{◌≡◌, ℕ, List, Ok, Err, Result}
use Rattle.sheets.specs.declared.refusal.SheetRefusal.{SheetRefusal}
use Rattle.theory.specs.Network.{Network}
use Rattle.plans.specs.Complete.{judged}
use Rattle.plans.specs.Plans.{network}
use Rattle.plans.specs.Taken.{network_of}
use Rattle.plans.specs.declared.plan.Plan.{Plan}
use Rattle.hosts.specs.declared.refused.HostRefusal.{HostRefusal}
use Rattle.hosts.specs.declared.refused.HostRefusal.TheVariants.{Engine}

-- what the check of a sheet answers, without the place
abbrev pub placeless : Result (Unit {0}) SheetRefusal → Result (Unit {0}) HostRefusal
placeless (Ok x) = Ok x
placeless (Err e) = Err (Engine e.refusal)

unfoldable pub checked : List ℕ → Result (Unit {0}) HostRefusal
checked ws = placeless (judged ws)

-- the place of a refusal, 0 where there is none
abbrev pub place_in : Result (Unit {0}) SheetRefusal → ℕ
place_in (Ok x) = 0
place_in (Err e) = e.place

unfoldable pub checked_place : List ℕ → ℕ
checked_place ws = place_in (judged ws)

-- the network of a sheet
unfoldable pub sheet_network : List ℕ → Network
sheet_network ws = network_of ws

-- what loading a sheet answers: a plan with its network where it passes, else the refusal
abbrev pub Loaded : List ℕ → Result Plan HostRefusal → Type 0
Loaded ws (Ok p) = (checked ws ≡ Ok tt) × (network p ≡ sheet_network ws)
Loaded ws (Err e) = checked ws ≡ Err e
