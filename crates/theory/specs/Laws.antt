-- What holds of every run: over every lawful network, all rogues, all openings and all that the rogues say.
use Rattle.std.specs.Prelude.{◌≡◌, ℕ, suc, ◌+◌, ◌<◌, ◌≤◌, Bool, true, List, ◌∷◌}
use Rattle.std.specs.List.{AllByRecursion}
use Rattle.sites.specs.Sets.{in_set}
use Rattle.sites.specs.Lists.{In}
use Rattle.theory.specs.Network.{Network, Lawful, Suspect}
use Rattle.theory.specs.Flooding.{Said, heard, flooded, expected}
use Rattle.theory.specs.Runs.{phases, start, held, holds, owes, Sound, Run, Covers, play}

-- ---- one path

-- what is heard along a path in phase p is what its first site, u, flooded; if u is sound too, it is the bit that u held
pub record Carries (N : Network) (rogues : ℕ) (opening : ℕ → Bool) (said : Said) (p u : ℕ) (relays : List ℕ) : Type 0 where
  pub as_flooded : heard said (start N p) (u ∷ relays) ≡ flooded said (start N p) u
  pub as_held : Sound N rogues u → heard said (start N p) (u ∷ relays) ≡ held N said opening p u

-- a path along which some site expects a bit carries it so where its relays, all sites but the first, are sound; this holds as soon as the path was heard
abbrev pub RelayLaw : Type 0
RelayLaw = (N : Network) (rogues : ℕ) (opening : ℕ → Bool) (said : Said) (turns p v u k : ℕ) (relays : List ℕ) →
    Run N rogues opening said turns → v < N.n → In (u ∷ relays) (expected N v k) → start N p + k ≤ turns → AllByRecursion (Sound N rogues) relays →
    Carries N rogues opening said p u relays

-- ---- one phase

-- after each phase a sound site holds a bit that some sound site held before it
abbrev pub PhaseLaw : Type 0
PhaseLaw = (N : Network) (rogues : ℕ) (opening : ℕ → Bool) (said : Said) (turns p v : ℕ) →
    Run N rogues opening said turns → start N (suc p) ≤ turns → Sound N rogues v →
    (u : ℕ) × Sound N rogues u × (held N said opening (suc p) v ≡ held N said opening p u)

-- from the end of a phase whose suspect set holds every rogue, all sound sites hold the same bit
abbrev pub SettledLaw : Type 0
SettledLaw = (N : Network) (rogues : ℕ) (opening : ℕ → Bool) (said : Said) (turns p q v w : ℕ) →
    Run N rogues opening said turns → Covers N rogues p → p < q → start N q ≤ turns → Sound N rogues v → Sound N rogues w →
    held N said opening q v ≡ held N said opening q w

-- some phase has such a suspect set
abbrev pub CoverLaw : Type 0
CoverLaw = (N : Network) (rogues : ℕ) → Suspect N rogues → (p : ℕ) × (p < phases N) × Covers N rogues p

-- ---- the whole

pub record Agree (N : Network) (rogues : ℕ) (opening : ℕ → Bool) (said : Said) : Type 0 where
  -- when all phases are over, all sound sites hold the same bit
  pub agreement : (v w : ℕ) → Sound N rogues v → Sound N rogues w → held N said opening (phases N) v ≡ held N said opening (phases N) w
  -- and it is one that some sound site opened with
  pub origin : (v : ℕ) → Sound N rogues v → (u : ℕ) × Sound N rogues u × (held N said opening (phases N) v ≡ opening u)

abbrev pub AgreementLaw : Type 0
AgreementLaw = (N : Network) (rogues : ℕ) (opening : ℕ → Bool) (said : Said) (turns : ℕ) →
    Run N rogues opening said turns → start N (phases N) ≤ turns → Agree N rogues opening said

-- the same after any number of turns
pub record Stand (N : Network) (rogues : ℕ) (opening : ℕ → Bool) (said : Said) (turns : ℕ) : Type 0 where
  -- a sound site holds a bit that some sound site opened with
  pub origin : (v : ℕ) → Sound N rogues v → (u : ℕ) × Sound N rogues u × (holds N said opening turns v ≡ opening u)
  -- once a phase is over whose suspect set holds every rogue, all sound sites hold the same bit
  pub settled : (p v w : ℕ) → Covers N rogues p → start N (suc p) ≤ turns → Sound N rogues v → Sound N rogues w →
      holds N said opening turns v ≡ holds N said opening turns w
  -- and so they do once all phases are over
  pub agreement : (v w : ℕ) → start N (phases N) ≤ turns → Sound N rogues v → Sound N rogues w →
      holds N said opening turns v ≡ holds N said opening turns w

abbrev pub TurnsLaw : Type 0
TurnsLaw = (N : Network) (rogues : ℕ) (opening : ℕ → Bool) (said : Said) (turns : ℕ) →
    Run N rogues opening said turns → Stand N rogues opening said turns

-- ---- runs

-- the sites of the network said the same before turn t
abbrev pub SameBefore : Network → ℕ → Said → Said → Type 0
SameBefore N t said other = (s v : ℕ) → s < t → v < N.n → said s v ≡ other s v

-- what is held and owed depends only on what was said in earlier turns
abbrev pub PastLaw : Type 0
PastLaw = (N : Network) (opening : ℕ → Bool) (said other : Said) (t v : ℕ) → Lawful N → v < N.n → SameBefore N t said other →
    (holds N said opening t v ≡ holds N other opening t v) × (owes N said opening t v ≡ owes N other opening t v)

-- a run of some turns in which the rogues said theirs
pub record Played (N : Network) (rogues : ℕ) (opening : ℕ → Bool) (theirs said : Said) (turns : ℕ) : Type 0 where
  pub run : Run N rogues opening said turns
  pub free : (t v : ℕ) → t < turns → in_set rogues v ≡ true → said t v ≡ theirs t v

-- whatever the rogues say there is such a run, of any number of turns, and no other: in two of them each site of the network said the same in each turn
pub record OneRun (N : Network) (rogues : ℕ) (opening : ℕ → Bool) (theirs : Said) : Type 0 where
  pub exists : (turns : ℕ) → Played N rogues opening theirs (play N rogues opening theirs) turns
  pub unique : (turns : ℕ) (said other : Said) → Played N rogues opening theirs said turns → Played N rogues opening theirs other turns →
      SameBefore N turns said other

abbrev pub OneRunLaw : Type 0
OneRunLaw = (N : Network) (rogues : ℕ) (opening : ℕ → Bool) (theirs : Said) → Lawful N → Suspect N rogues →
    OneRun N rogues opening theirs
