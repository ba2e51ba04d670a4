use Rattle.std.proofs.Common.{◌≡◌, true, false, not, Some, sym, refl, ap, ◌∙◌}
use Rattle.std.proofs.lemmas.Bool.{both_ways}
use Rattle.std.proofs.lemmas.Result.{err_from_is_err_and}
use denote.Enum.Bare.{sameb}
use Rattle.words.specs.contracts.kind.Kind.{the_type}
use Rattle.words.specs.declared.kind.Kind.{Kind}
use Rattle.words.specs.declared.kind.Kind.TheVariants.{Flood, Route, Fan}
use Rattle.words.specs.declared.path.Path.{Path}
use Rattle.words.specs.Words.{meaning_of, sites_of}
use Rattle.rounds.proofs.Words.{asked_none, asked_zero, asked_one, asked_other}
use Rattle.rounds.proofs.recalling.asked.Goals as goal
use Rattle.rounds.proofs.recalling.asked.Goals.{then-ne-via-then-ne, then-ne-via-else-ne+then-tail-ne0}

is_flood : (k : Kind) → false ≡ not (sameb the_type k Flood) → k ≡ Flood
is_flood Flood e = refl
is_flood Route e = absurd (both_ways false refl e)
is_flood Fan e = absurd (both_ways false refl e)

no_flood : (k : Kind) → true ≡ not (sameb the_type k Flood) → k ≡ Flood → ⊥
no_flood k e same = both_ways (not (sameb the_type k Flood)) (ap (λ x. not (sameb the_type x Flood)) same) (sym e)

pub returns-in_err-flood : goal.returns-in_err-flood
returns-in_err-flood c =
    let p = err_from_is_err_and c.from_residual.result c.from_residual.ensures.1 in
    let a = c.in_err-flood.ensures.answer in
    rw (p.1, p.2) (asked_none c.args.word a.0, a.1)

pub returns-then-ne : goal.returns-then-ne
returns-then-ne c =
    let f = c.in_ok-flood.flood in
    let read = c.in_ok-flood.ensures.answer in
    elim c.then-ne.branch [
      | then-ne-via-then-ne w ↦ (asked_other c.args.word (meaning_of f) read (λ e. no_flood c.kind.result w.if-ne.ensures (c.kind.ensures ∙ e)), refl)
      | then-ne-via-else-ne+then-tail-ne0 w ↦
          (asked_one c.args.word (meaning_of f) read f.path.len (sym c.kind.ensures ∙ is_flood c.kind.result w.if-ne.ensures) f.suited (λ e. w.if-tail-ne0.true (w.tail.ensures ∙ e)), refl)
    ]

pub returns : goal.returns
returns c =
    let f = c.in_ok-flood.flood in
    asked_zero c.args.word (meaning_of f) c.in_ok-flood.ensures.answer (sym c.kind.ensures ∙ is_flood c.kind.result c.if-ne.ensures) (sym c.tail.ensures ∙ c.if-tail-ne0.false)
    ∙ ap (λ (x : Path). Some (sites_of x)) (sym c.path.ensures)
