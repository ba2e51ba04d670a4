-- A floor as its calls see it.
use Rattle.std.specs.Prelude.{ℕ, ◌+◌, ◌-◌, ◌/◌, ◌%◌, Bool, false, cond, not, ◌&&◌, List, map, ◌==◌, nat_le, nat_lt, slice_index_or}
use Rattle.std.specs.List.{range_with_len}
use Rattle.sites.specs.Sets.{in_set}
use Rattle.theory.specs.Network.{Network}
use Rattle.theory.specs.Runs.{phases, start}
use Rattle.airs.specs.Lanes.{Lanes, silent}
use Rattle.notebooks.specs.Notebooks.{empty_book}

-- what a floor keeps of a site
pub record SiteRecord : Type 0 where
  -- the bit that it holds
  pub holds : Bool
  -- whether it has spoken in this round
  pub spoken : Bool
  -- the words of its notebook
  pub notebook : List ℕ

pub record State : Type 0 where
  -- the network of the plan that the floor was opened on
  pub net : Network
  -- the set of the rogues
  pub rogues : ℕ
  -- six records, one a site; those of rogues, and of sites past the last, stay blank
  pub records : List SiteRecord
  -- what is on the air
  pub lanes : Lanes
  -- the accepted turns since the floor was opened
  pub turns : ℕ

abbrev pub blank : SiteRecord
blank = record { holds = false; spoken = false; notebook = empty_book }

-- the record of a site
abbrev pub site : State → ℕ → SiteRecord
site st s = slice_index_or st.records s blank

-- whether s is a site of the network and no rogue
abbrev pub is_sound : Network → ℕ → ℕ → Bool
is_sound N rogues s = nat_lt s N.n && not (in_set rogues s)

-- a floor just opened: the sound sites hold their bits, nothing is noted and nothing is on the air
abbrev pub opened : Network → ℕ → ℕ → State
opened N rogues bits = record {
  net = N;
  rogues = rogues;
  records = map (λ s. record { holds = is_sound N rogues s && in_set bits s; spoken = false; notebook = empty_book }) (range_with_len 0 6);
  lanes = silent;
  turns = 0;
}

-- the turns of a whole run: n - 1 for each suspect set
abbrev pub last_turn : Network → ℕ
last_turn N = start N (phases N)

-- whether the last phase has ended
abbrev pub over : State → Bool
over st = nat_le (last_turn st.net) st.turns

-- the phase, counted from 0, and its round, counted from 1, that the next turn is in
abbrev pub phase : State → ℕ
phase st = st.turns / (st.net.n - 1)

abbrev pub round : State → ℕ
round st = st.turns % (st.net.n - 1) + 1

-- The phase that the latest of some turns was in, and how many of its rounds were heard; no round was heard before the first turn.
-- It is what the notebooks are about, as they stay until the first turn of the next phase.
abbrev pub phase_noted : Network → ℕ → ℕ
phase_noted N turns = (turns - 1) / (N.n - 1)

abbrev pub rounds_noted : Network → ℕ → ℕ
rounds_noted N turns = cond (turns == 0) 0 ((turns - 1) % (N.n - 1) + 1)
