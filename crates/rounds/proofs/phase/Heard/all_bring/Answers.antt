use Rattle.std.proofs.Common.{◌≡◌, ℕ, Bool, true, is_some, rules, tests}
use Rattle.std.proofs.lemmas.Iterator.{cases_from_all, YieldsList-from_slice}
use Rattle.sites.specs.Lists.{front}
use Rattle.words.specs.Layout.{path_field}
use Rattle.words.specs.Words.{meaning}
use Rattle.rounds.specs.Telling.{tells}
use Rattle.rounds.proofs.Weighs.{all_told}
use Rattle.rounds.proofs.phase.Heard.all_bring.Goals as goal

pub returns : goal.returns
returns c =
    let B : ℕ → Bool = λ w. tells c.args.self.now (front (path_field w)) in
    let L : ℕ → Type 0 = λ w. is_some (meaning w) ≡ true in
    let ws = c.args.words.now in
    let h =
    cases_from_all _ _ _ (λ w. L w → B w ≡ c.args.bit) (λ w. L w → B w ≡ c.args.bit → ⊥) c.all.ensures.ran (YieldsList-from_slice ws cc) (λ x q k. search (rules, tests)) (λ x q k. search (rules, tests)) in
    all_told L B c.args.bit ws c.all.result c.requires h
