-- Smaller laws of calls and of lists of them.
use Rattle.std.specs.Prelude.{◌≡◌, ℕ, ◌≤◌, List, Ok, Err, ◌≢◌}
use Rattle.sites.specs.declared.refusal.Refusal.{Refusal}
use Rattle.sites.specs.declared.refusal.Refusal.TheVariants.{LaneFull}
use Rattle.theory.specs.Network.{Network, Lawful, Suspect}
use Rattle.runs.specs.declared.calls.Call.{Call}
use Rattle.runs.specs.State.{State, opened}
use Rattle.runs.specs.Replies.{open_reply, open_next, speak_reply}
use Rattle.runs.specs.Runs.{reply, next, Entry, Ran, after, answers, entries}

-- a refused call leaves all as it was
abbrev pub RefusedLaw : Type 0
RefusedLaw = (size : ℕ) (st : State) (c : Call) (e : Refusal) → reply size st c ≡ Err e → next size st c ≡ st

-- an accepted open leaves a floor just opened, whose rogues are a suspect set; a refused one leaves all as it was
pub record Opens (N : Network) (rogues bits : ℕ) (st : State) : Type 0 where
  pub accepted : open_reply N rogues bits ≡ Ok tt → Suspect N rogues × (open_next N rogues bits st ≡ opened N rogues bits)
  pub refused : (e : Refusal) → open_reply N rogues bits ≡ Err e → open_next N rogues bits st ≡ st

abbrev pub OpenLaw : Type 0
OpenLaw = (N : Network) (rogues bits : ℕ) (st : State) → Opens N rogues bits st

-- from the least lane size on, no speak on an opened floor is ever refused for want of room
abbrev pub RoomLaw : Type 0
RoomLaw = (size : ℕ) (N : Network) (rogues bits : ℕ) (es : List Entry) (floor : State) →
    120 ≤ size → Lawful N → N.n ≤ 6 → Suspect N rogues → Ran size (opened N rogues bits) es floor →
    (s : ℕ) → speak_reply size floor s ≢ Err LaneFull

-- some calls, one after another, are a run, and there is no other
pub record OneWay (size : ℕ) (st : State) : Type 0 where
  pub run : (cs : List Call) → Ran size st (entries cs (answers size st cs)) (after size st cs)
  pub only : (es : List Entry) (last : State) → Ran size st es last → (cs : List Call) × (es ≡ entries cs (answers size st cs)) × (last ≡ after size st cs)

abbrev pub OneWayLaw : Type 0
OneWayLaw = (size : ℕ) (st : State) → OneWay size st
