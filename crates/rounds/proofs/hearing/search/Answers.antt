use Rattle.std.proofs.Common.{◌+◌, ◌≡◌, ◌<◌, length, sym, ◌∙◌, arith}
use Rattle.airs.specs.Lanes.{lane}
use Rattle.rounds.proofs.Scans.{first_zero, first_one, first_skip, never_none}
use Rattle.rounds.proofs.hearing.search.Goals as goal
use Rattle.rounds.proofs.hearing.search.Goals.{in-Some+else-word-wanted+else-from-with_one, in_default}

pub returns-then-word-wanted : goal.returns-then-word-wanted
returns-then-word-wanted g c =
    let ls = lane (g.A.Air.lanes c.args.air.now) c.args.site in
    let lt : c.loop-k.k < length ls = omega (arith, c.count-k-end.ensures) in
    sym (first_zero c.args.wanted c.loop-k.k c.in-Some.word ls lt c.in-Some.ensures c.if-word-wanted.true) ∙ c.loop-k.invariant

pub returns-then-from-with_one : goal.returns-then-from-with_one
returns-then-from-with_one g c =
    let ls = lane (g.A.Air.lanes c.args.air.now) c.args.site in
    let lt : c.loop-k.k < length ls = omega (arith, c.count-k-end.ensures) in
    let next : c.in-Some.word ≡ c.args.wanted + 1 = omega (arith, c.from-with_one.ensures, c.from.ensures, c.if-from-with_one.true) in
    sym (first_one c.args.wanted c.loop-k.k c.in-Some.word ls lt c.in-Some.ensures c.if-word-wanted.false next) ∙ c.loop-k.invariant

pub loop-k-preserved : goal.loop-k-preserved
loop-k-preserved g c =
    let ls = lane (g.A.Air.lanes c.args.air.now) c.args.site in
    let lt : c.loop-k.k < length ls = omega (arith, c.count-k-end.ensures) in
    elim c.match-at.branch [
      | in-Some+else-word-wanted+else-from-with_one w ↦
          let not_next : w.in-Some.word ≡ c.args.wanted + 1 → ⊥ = λ e. w.if-from-with_one.false (omega (arith, c.from-with_one.ensures, w.from.ensures)) in
          sym (first_skip c.args.wanted c.loop-k.k w.in-Some.word ls lt w.in-Some.ensures w.if-word-wanted.false not_next) ∙ c.loop-k.invariant
      | in_default w ↦ absurd (never_none c.loop-k.k ls lt (sym w.in_default.is ∙ c.at.ensures))
    ]
