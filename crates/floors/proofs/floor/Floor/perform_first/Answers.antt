use Rattle.std.proofs.Common.{◌≡◌, ℕ, ◌<◌, ◌≤◌, ◌++◌, length, get_or, take, drop, Ok, ap, ◌∙◌, arith}
use Rattle.std.proofs.lemmas.List.{get_or-take, length-take-le}
use Rattle.runs.specs.declared.calls.Call.{Call}
use Rattle.runs.specs.declared.calls.Call.TheVariants.{Transmit}
use Rattle.runs.specs.declared.calls.Value.TheVariants.{Count}
use Rattle.runs.specs.Runs.{reply, next, after, answers}
use Rattle.plans.proofs.Wholes.{plan_lawful}
use Rattle.site_plans.proofs.Made.{base_few}
use Rattle.floors.specs.Views.{view}
use Rattle.floors.proofs.Performs.{after_more, answers_more, answered, performed}
use Rattle.floors.proofs.floor.Floor.perform_first.Goals as goal

pub loop-i-preserved : goal.loop-i-preserved
loop-i-preserved g c =
    let z = g.A.Air.size in
    let st = view g.A.Air.lanes c.args.self.now in
    let mid = view g.A.Air.lanes c.loop-i.self in
    let cs = c.args.calls.now in
    let old = c.args.answers.now in
    let i = c.loop-i.i in
    let inv = c.loop-i.invariant in
    let k = c.args.count in
    let long : length (take k cs) ≡ k = length-take-le k cs c.requires.0 in
    let under : i < k = omega arith in
    let l : i < length cs = omega (arith, c.requires.0) in
    let m : i < length old = omega (arith, c.requires.1) in
    let same : get_or (take k cs) i (Transmit 0 0) ≡ get_or cs i (Transmit 0 0) = get_or-take k cs i (Transmit 0 0) under in (
      after_more z st mid _ cs i (Transmit 0 0) l inv.0 (c.perform_one.ensures.after ∙ ap (λ (x : Call). next z mid x) same),
      answers_more z st mid cs old c.loop-i.answers i (Transmit 0 0) c.perform_one.result (Ok (Count 0)) l m inv.0 inv.1 (c.perform_one.ensures.answer ∙ ap (λ (x : Call). reply z mid x) same),
      c.perform_one.ensures.plan ∙ inv.2,
    )

pub returns-clause-guarantee : goal.returns-clause-guarantee
returns-clause-guarantee g c =
    let z = g.A.Air.size in
    let f = c.args.self.now in
    let st = view g.A.Air.lanes f in
    let cs = c.args.calls.now in
    let old = c.args.answers.now in
    let k = c.args.count in
    let inv = c.loop-i.invariant in
    let l : k ≤ length cs = c.requires.0 in
    let long : length (take k cs) ≡ k = length-take-le k cs l in
    let e : c.loop-i.i ≡ k = omega arith in
    let told = inv.1 ∙ ap (λ (j : ℕ). answers z st (take j cs) ++ drop j old) e in
    let left = inv.0 ∙ ap (λ (j : ℕ). after z st (take j cs)) e in
    performed z st _ (take k cs) _ g.met.A.Air.wide (plan_lawful f.ground.base.plan) (base_few f.ground.base) (answered z st cs old c.loop-i.answers k l told) left
