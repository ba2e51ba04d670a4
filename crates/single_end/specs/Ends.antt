-- A single end: one site of a network, run on its own by the rules of the floor.
use Rattle.std.specs.Prelude.{ℕ, ◌+◌, ◌-◌, Bool, cond, ◌&&◌, List, Ok, Err, Result, ◌==◌, nat_le, nat_lt}
use Rattle.sites.specs.declared.refusal.Refusal.{Refusal}
use Rattle.sites.specs.declared.refusal.Refusal.TheVariants.{NoSite, OtherPlan}
use Rattle.theory.specs.Network.{Network}
use Rattle.theory.specs.Weighing.{weigh}
use Rattle.theory.specs.Runs.{phases, suspect}
use Rattle.airs.specs.Lanes.{Lanes, lane}
use Rattle.notebooks.specs.Floods.{heard_in}
use Rattle.notebooks.specs.Notebooks.{take_round, owed_by_bits, told_by}
use Rattle.rounds.specs.Speaking.{put_all_reply, put_all_next}

-- what an end keeps in a round of a phase; n and f are those that it began with
pub record InRound : Type 0 where
  pub site : ℕ
  pub holds : Bool
  pub phase : ℕ
  pub round : ℕ
  pub n : ℕ
  pub f : ℕ

-- what it keeps when all rounds of a phase were taken
pub record InWeighing : Type 0 where
  pub site : ℕ
  pub holds : Bool
  pub phase : ℕ
  pub n : ℕ
  pub f : ℕ

-- what take leads to
pub data Afterwards : Type 0 where
  next_round : InRound → Afterwards
  all_taken : InWeighing → Afterwards

-- what weigh leads to
pub data Standing : Type 0 where
  in_round : InRound → Standing
  done : Bool → Standing

-- ---- begin: 21 for a site not below n; else phase 0, round 1

abbrev pub begun : Network → ℕ → Bool → InRound
begun N s bit = record { site = s; holds = bit; phase = 0; round = 1; n = N.n; f = N.f }

abbrev pub begin_reply : Network → ℕ → Bool → Result InRound Refusal
begin_reply N s bit = cond (nat_le N.n s) (Err NoSite) (Ok (begun N s bit))

-- ---- what speak, take and weigh begin with: whether a network has the n and f that the end began with

abbrev pub same_size : Network → ℕ → ℕ → Bool
same_size N n f = N.n == n && N.f == f

-- ---- speak: 14; 25 where the lane cannot take all that is owed, and then none of it is put; else how many words that are

abbrev pub owed_by : Network → InRound → List ℕ → List ℕ
owed_by N e book = owed_by_bits N e.site e.round e.holds book

abbrev pub speak_reply : ℕ → Network → Lanes → InRound → List ℕ → Result ℕ Refusal
speak_reply size N ls e book = cond (same_size N e.n e.f) (put_all_reply size ls e.site (owed_by N e book)) (Err OtherPlan)

abbrev pub speak_next : ℕ → Network → Lanes → InRound → List ℕ → Lanes
speak_next size N ls e book = cond (same_size N e.n e.f) (put_all_next size ls e.site (owed_by N e book)) ls

-- ---- take: 14; else the next round or, after round n - 1, weighing; the notebook has the round's bits

abbrev pub taken : InRound → Afterwards
taken e =
    cond (nat_lt e.round (e.n - 1))
    (next_round (record { site = e.site; holds = e.holds; phase = e.phase; round = e.round + 1; n = e.n; f = e.f }))
    (all_taken (record { site = e.site; holds = e.holds; phase = e.phase; n = e.n; f = e.f }))

abbrev pub book_taken : Network → Lanes → InRound → List ℕ → List ℕ
book_taken N ls e book = take_round N e.site e.round (heard_in (lane ls)) book

-- ---- weigh: 14; else round 1 of the next phase or, after the last, done

abbrev pub bit_weighed : Network → InWeighing → List ℕ → Bool
bit_weighed N w book = weigh N (told_by N w.site book) (suspect N w.phase) w.holds w.site

abbrev pub gone_on : ℕ → InWeighing → Bool → Standing
gone_on count w bit =
    cond (nat_lt (w.phase + 1) count)
    (in_round (record { site = w.site; holds = bit; phase = w.phase + 1; round = 1; n = w.n; f = w.f }))
    (done bit)

abbrev pub weighed : Network → InWeighing → List ℕ → Standing
weighed N w book = gone_on (phases N) w (bit_weighed N w book)
