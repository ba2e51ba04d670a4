use Rattle.std.proofs.Common.{◌≡◌, ℕ, ◌+◌, ◌-◌, ◌≤◌, get_or, take, sym, ap, ◌∙◌, subst, arith}
use Rattle.std.proofs.lemmas.List.{take_all}
use Rattle.airs.specs.Lanes.{Lanes, added, put_next}
use Rattle.airs.proofs.Puts.{added_none, put_more}
use Rattle.rounds.proofs.speaking.put_each.Goals as goal

pub loop-place-init : goal.loop-place-init
loop-place-init g c = λ ws long given.
    let ls : Lanes = g.A.Air.lanes c.args.air.now in
    let z : c.args.places.start - c.args.places.start ≡ 0 = omega arith in
    sym (ap (λ (j : ℕ). added ls c.args.site (take j ws)) z ∙ added_none ls c.args.site)

pub loop-place-preserved : goal.loop-place-preserved
loop-place-preserved g c = λ ws long given.
    let ls : Lanes = g.A.Air.lanes c.args.air.now in
    let size : ℕ = g.A.Air.size in
    let s : ℕ = c.args.site in
    let i : ℕ = c.loop-place.place in
    let k : ℕ = i - c.args.places.start in
    let from : c.args.places.start ≤ i = omega (arith, c.loop-place.auto.place) in
    let here : i ≡ c.args.places.start + k = omega arith in
    let word : c.word.result ≡ get_or ws k 0 = given k c.word.result (omega arith) (subst (λ (n : ℕ). g.F.Fn.post c.args.word (n, tt) c.word.result) here c.word.ensures) in
    let more : k + 1 ≡ (i + 1) - c.args.places.start = omega arith in
    c.put.ensures.after
    ∙ ap (λ (b : Lanes). put_next size b s c.word.result) (c.loop-place.invariant ws long given)
    ∙ ap (put_next size (added ls s (take k ws)) s) word
    ∙ put_more size ls s k ws (g.met.A.Air.six c.args.air.now) c.requires.room.0 (omega (arith, c.requires.room.1)) (omega arith)
    ∙ ap (λ (j : ℕ). added ls s (take j ws)) more

pub returns : goal.returns
returns g c = λ ws long given.
    let ls : Lanes = g.A.Air.lanes c.args.air.now in
    let k : ℕ = c.loop-place.place - c.args.places.start in
    c.loop-place.invariant ws long given ∙ ap (added ls c.args.site) (take_all k ws (omega arith))
