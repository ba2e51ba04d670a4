-- What the calls on a single end answer.
use Rattle.std.specs.Prelude.{◌≡◌, ℕ, true, false, List, Ok, Err, Result}
use Rattle.sites.specs.declared.refusal.Refusal.{Refusal}
use Rattle.sites.specs.declared.refusal.Refusal.TheVariants.{OtherPlan}
use Rattle.theory.specs.Network.{Network}
use Rattle.airs.specs.Lanes.{Lanes}
use Rattle.single_end.specs.Ends.{InRound, InWeighing, Afterwards, Standing, next_round, all_taken, in_round, done, same_size, taken, book_taken, weighed}
use Rattle.single_end.specs.States.{seen_round, seen_weighing}
use Rattle.single_end.specs.declared.round.Round.{Round}
use Rattle.single_end.specs.declared.weighing_state.Weighing.{Weighing}
use Rattle.single_end.specs.declared.taking.Taken.{Taken}
use Rattle.single_end.specs.declared.taking.Taken.TheVariants as taken_case
use Rattle.single_end.specs.declared.weighing.Weighed.{Weighed}
use Rattle.single_end.specs.declared.weighing.Weighed.TheVariants as weighed_case

abbrev pub begins : Result Round Refusal → Result InRound Refusal
begins (Ok r) = Ok (seen_round r)
begins (Err e) = Err e

abbrev pub seen_taken : Taken → Afterwards
seen_taken (taken_case.Round r) = next_round (seen_round r)
seen_taken (taken_case.Weighing w) = all_taken (seen_weighing w)

abbrev pub seen_weighed : Weighed → Standing
seen_weighed (weighed_case.Round r) = in_round (seen_round r)
seen_weighed (weighed_case.Done d) = done d.bit

-- a refused take gives the state back and leaves the notebook
abbrev pub Takes : Network → Lanes → InRound → List ℕ → List ℕ → Result Taken (Refusal × Round) → Type 0
Takes N ls e old new (Ok t) = (same_size N e.n e.f ≡ true) × (seen_taken t ≡ taken e) × (new ≡ book_taken N ls e old)
Takes N ls e old new (Err x) = (same_size N e.n e.f ≡ false) × (x.0 ≡ OtherPlan) × (seen_round x.1 ≡ e) × (new ≡ old)

-- a refused weigh gives the state back
abbrev pub Weighs : Network → InWeighing → List ℕ → Result Weighed (Refusal × Weighing) → Type 0
Weighs N w book (Ok r) = (same_size N w.n w.f ≡ true) × (seen_weighed r ≡ weighed N w book)
Weighs N w book (Err x) = (same_size N w.n w.f ≡ false) × (x.0 ≡ OtherPlan) × (seen_weighing x.1 ≡ w)
