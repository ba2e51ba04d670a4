-- What a host is answered: 0, or the number of a refusal.
use Rattle.std.specs.Prelude.{ℕ, cond, Ok, Err, Result, nat_lt}
use Rattle.sites.specs.declared.refusal.Refusal.{Refusal}
use Rattle.sites.specs.Refusals.{number_of}
use Rattle.hosts.specs.declared.refused.HostRefusal.{HostRefusal}
use Rattle.hosts.specs.declared.refused.HostRefusal.TheVariants.{NoCall, TooShort, NoState, Engine}

-- the number of a refusal: 100 to 102 are a host's own, the others are the engine's
abbrev pub host_number : HostRefusal → ℕ
host_number NoCall = 100
host_number TooShort = 101
host_number NoState = 102
host_number (Engine e) = number_of e

-- what a call answers by number: 0 where it was accepted
abbrev pub answered : {X : Type 0} → Result X HostRefusal → ℕ
answered (Ok x) = 0
answered (Err e) = host_number e

-- what an accepted call leaves; a refused one leaves all as it was
abbrev pub left_by : {X S : Type 0} → Result X HostRefusal → (X → S) → S → S
left_by (Ok x) made old = made x
left_by (Err e) made old = old

-- a call that may be refused, and where it is not the next
abbrev pub then_by : {X Y : Type 0} → Result X HostRefusal → (X → Result Y HostRefusal) → Result Y HostRefusal
then_by (Ok x) next = next x
then_by (Err e) next = Err e

-- a refusal of the engine, as a host gets it
abbrev pub by_engine : {X : Type 0} → Result X Refusal → Result X HostRefusal
by_engine (Ok x) = Ok x
by_engine (Err e) = Err (Engine e)

-- a number that a host gives for a site: 255, which no network has, stands for all above it
abbrev pub site_of : ℕ → ℕ
site_of w = cond (nat_lt w 256) w 255
