use Rattle.std.proofs.Common.{ℕ, true, List, is_some, sym, refl, ap, ◌∙◌}
use Rattle.std.proofs.lemmas.Bool.{both_ways}
use Rattle.sites.specs.Lists.{front}
use Rattle.words.specs.declared.path.Path.{Path}
use Rattle.words.specs.Words.{meaning_of, sites_of}
use Rattle.rounds.specs.Telling.{tells}
use Rattle.rounds.proofs.Words.{sites_read}
use Rattle.rounds.proofs.phase.Heard.bit_along.Goals as goal

pub returns-in_default : goal.returns-in_default
returns-in_default c = λ lawful. absurd (both_ways true (sym lawful ∙ ap is_some c.in_default.ensures.answer.0) refl)

pub returns : goal.returns
returns c = λ lawful.
    let h = c.args.self.now in
    c.told_front.ensures
    ∙ ap (λ (x : Path). tells h (front (sites_of x))) c.path.ensures
    ∙ ap (λ (x : List ℕ). tells h (front x)) (sites_read c.args.word (meaning_of c.in-Ok.path) c.in-Ok.ensures.answer)
