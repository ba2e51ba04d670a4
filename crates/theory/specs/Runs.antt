-- Runs: what each site holds and owes, by phases and by turns, and what it is that the sound sites follow the rules.
use Rattle.std.specs.Prelude.{◌≡◌, ℕ, zero, suc, ◌-◌, ◌*◌, ◌/◌, ◌%◌, ◌<◌, Bool, true, false, cond, List, [], ◌∷◌, length, ◌==◌, slice_index}
use Rattle.sites.specs.Sets.{in_set}
use Rattle.sites.specs.Suspects.{suspects}
use Rattle.theory.specs.Network.{Network, Lawful, Suspect}
use Rattle.theory.specs.Flooding.{Word, Said, heard, expected, words_for}
use Rattle.theory.specs.Weighing.{weigh}

-- There is a phase for each suspect set, in their order. Phases are counted from 0, and each has n - 1 turns, one for each of its rounds.
abbrev pub phases : Network → ℕ
phases N = length (suspects N.n N.f)

unfoldable pub suspect : Network → ℕ → ℕ
suspect N p = slice_index (suspects N.n N.f) p

-- the first turn of phase p
abbrev pub start : Network → ℕ → ℕ
start N p = p * (N.n - 1)

-- the bit that v holds when p phases are over: at first its opening bit, then what it weighs by what it heard in the phase
unfoldable pub held : Network → Said → (ℕ → Bool) → ℕ → ℕ → Bool
held N said opening zero v = opening v
held N said opening (suc p) v = weigh N (heard said (start N p)) (suspect N p) (held N said opening p v) v

-- what v owes in the r-th turn of phase p, counted from 0: at first the empty path with its bit, then a word for each path of r sites along which it heard a bit
unfoldable pub owed : Network → Said → (ℕ → Bool) → ℕ → ℕ → ℕ → List Word
owed N said opening p zero v = record { path = []; bit = held N said opening p v } ∷ []
owed N said opening p (suc k) v = words_for (heard said (start N p)) (expected N v (suc k))

-- the bit that v holds when some turns are over
unfoldable pub holds : Network → Said → (ℕ → Bool) → ℕ → ℕ → Bool
holds N said opening turns v = held N said opening (turns / (N.n - 1)) v

-- what v owes in turn t
unfoldable pub owes : Network → Said → (ℕ → Bool) → ℕ → ℕ → List Word
owes N said opening t v = owed N said opening (t / (N.n - 1)) (t % (N.n - 1)) v

-- v is a site of the network and no rogue
abbrev pub Sound : Network → ℕ → ℕ → Type 0
Sound N rogues v = (v < N.n) × (in_set rogues v ≡ false)

-- a run of some turns: at most f rogues, who said anything, and sound sites who said in each turn what they owed, and nothing else
pub record Run (N : Network) (rogues : ℕ) (opening : ℕ → Bool) (said : Said) (turns : ℕ) : Type 0 where
  pub lawful : Lawful N
  pub rogue_set : Suspect N rogues
  pub honest : (t v : ℕ) → t < turns → Sound N rogues v → said t v ≡ owes N said opening t v

-- the suspect set of phase p holds every rogue
abbrev pub Covers : Network → ℕ → ℕ → Type 0
Covers N rogues p = (s : ℕ) → s < N.n → in_set rogues s ≡ true → in_set (suspect N p) s ≡ true

-- what was said in the first t turns, and nothing later, where the rogues say theirs and the sound sites what they owe
unfoldable pub history : Network → ℕ → (ℕ → Bool) → Said → ℕ → Said
history N rogues opening theirs zero s v = []
history N rogues opening theirs (suc t) s v =
    cond (s == t)
    (cond (in_set rogues v) (theirs t v) (owes N (history N rogues opening theirs t) opening t v))
    (history N rogues opening theirs t s v)

-- the run in which the rogues say theirs
unfoldable pub play : Network → ℕ → (ℕ → Bool) → Said → Said
play N rogues opening theirs t = history N rogues opening theirs (suc t) t
