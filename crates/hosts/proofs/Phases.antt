-- The phase that comes after weighing fits a word.
use Rattle.std.proofs.Common.{◌≡◌, ℕ, ◌+◌, ◌^◌, ◌<◌, ◌≤◌, Bool, true, false, cond, ltb, leb, List, Ok, Err, Result, refl, sym, subst, arith}
use Rattle.std.specs.Result.{MatchResult}
use Rattle.std.proofs.lemmas.Bool.{leb-true, ltb-true}
use Rattle.sites.specs.declared.refusal.Refusal.{Refusal}
use Rattle.sites.specs.Positions.{all_from}
use Rattle.sites.proofs.Positions.{all_at}
use Rattle.theory.specs.Runs.{phases}
use Rattle.plans.specs.Plans.{network}
use Rattle.plans.specs.declared.plan.Plan.{Plan}
use Rattle.sites.proofs.Table.{number, number_is}
use Rattle.plans.proofs.Wholes.{plan_sites, plan_rogues}
use Rattle.single_end.specs.Ends.{InRound, InWeighing, in_round, done, bit_weighed, weighed}
use Rattle.single_end.specs.Calls.{seen_weighed, Weighs}
use Rattle.single_end.specs.declared.weighing.Weighed.{Weighed}
use Rattle.single_end.specs.declared.weighing_state.Weighing.{Weighing}
use Rattle.hosts.specs.declared.refused.HostRefusal.{HostRefusal}
use Rattle.hosts.specs.Ends.{WeighedFits}

few : (n f : ℕ) → n < 7 → f < 3 → number n f ≤ 22
few n f hn hf = leb-true (number n f) 22 (all_at (λ f. leb (number n f) 22) 0 3 (all_at (λ n. all_from (λ f. leb (number n f) 22) 0 3) 0 7 refl n (omega arith) (omega arith)) f (omega arith) (omega arith))

few_phases : (p : Plan) → phases (network p) ≤ 22
unfolding network
few_phases p =
    let n = (network p).n in
    let f = (network p).f in
    let hn : n < 7 = omega (arith, (plan_sites p).1) in
    let hf : f < 3 = omega (arith, plan_rogues p) in
    omega (arith, few n f hn hf, number_is n f hn hf)

either_fits : (t : Bool) (e : InRound) (b : Bool) → (t ≡ true → (e.phase < 2 ^ 32) × (e.round < 2 ^ 32)) → WeighedFits (cond t (in_round e) (done b))
either_fits true e b h = h refl
either_fits false e b h = tt

pub weighed_fits : (p : Plan) (w : InWeighing) (book : List ℕ) → WeighedFits (weighed (network p) w book)
weighed_fits p w book =
    either_fits (ltb (w.phase + 1) (phases (network p)))
    (record { site = w.site; holds = bit_weighed (network p) w book; phase = w.phase + 1; round = 1; n = w.n; f = w.f })
    (bit_weighed (network p) w book)
    (λ t. let l = ltb-true (w.phase + 1) (phases (network p)) t in (omega (arith, few_phases p), omega arith))

-- so what a weigh that is not refused leads to fits
pub weighed_fits_in : (p : Plan) (w : InWeighing) (book : List ℕ) (r : Result Weighed (Refusal × Weighing)) (x : Weighed) →
    Weighs (network p) w book r → MatchResult r (λ y. ◌≡◌ {A = Result Weighed HostRefusal} (Ok x) (Ok y)) (λ _. ⊥) → WeighedFits (seen_weighed x)
weighed_fits_in p w book (Ok y) x s same = let z : x ≡ y = cc in subst (λ v. WeighedFits (seen_weighed v)) (sym z) (subst WeighedFits (sym s.1) (weighed_fits p w book))
weighed_fits_in p w book (Err e) x s none = absurd none
