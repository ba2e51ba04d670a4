use Rattle.std.proofs.Common.{set, sym, ap, ◌∙◌, arith}
use Rattle.std.proofs.lemmas.List.{set_past}
use Rattle.hosts.specs.Answered.{answered}
use Rattle.hosts.specs.Sheets.{placeless, checked, place_in, checked_place}
use Rattle.hosts.proofs.Places.{place_fits}
use Rattle.hosts.proofs.checking.rolgevin_check.Goals as goal
use Rattle.hosts.proofs.checking.rolgevin_check.Goals.{then-place-gt0, else-place-gt0}

pub refused_place-requires : goal.refused_place-requires
refused_place-requires c = λ e s. place_fits c.args.sheet.now e (sym c.judge-judged.ensures.answer ∙ s)

pub returns-clause-answer : goal.returns-clause-answer
unfolding checked
returns-clause-answer c =
    c.answered.ensures ∙ ap answered c.placeless.ensures
    ∙ ap (λ r. answered (placeless r)) c.judge-judged.ensures.answer

pub returns-clause-place : goal.returns-clause-place
unfolding checked_place
returns-clause-place c =
    elim c.if-place-gt0.branch [
      | then-place-gt0 w ↦ w.place-is ∙ ap (λ k. set c.args.place.now 0 k) (w.refused_place.ensures ∙ ap place_in c.judge-judged.ensures.answer)
      | else-place-gt0 w ↦ w.place-is ∙ sym (set_past c.args.place.now 0 _ (omega (arith, w.if-place-gt0)))
    ]
