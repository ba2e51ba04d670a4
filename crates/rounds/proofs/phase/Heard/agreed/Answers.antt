use Rattle.std.proofs.Common.{◌≡◌, ℕ, ◌<◌, Bool, true, false, List, ◌∷◌, length, get_or, is_some, sym, ap, ◌∙◌, rules}
use Rattle.sites.specs.Lists.{front}
use Rattle.words.specs.Layout.{path_field}
use Rattle.words.specs.Words.{meaning}
use Rattle.rounds.specs.Telling.{tells}
use Rattle.rounds.proofs.Weighs.{agreed_by, agreed_none, parted}
use Rattle.rounds.proofs.phase.Heard.agreed.Goals as goal

pub returns-then-all_bring : goal.returns-then-all_bring
returns-then-all_bring c =
    let B : ℕ → Bool = λ w. tells c.args.self.now (front (path_field w)) in
    let some : 0 < length c.args.fan.now = search rules in
    let w : c.in-Some.first.now ≡ get_or c.args.fan.now 0 0 = search rules in
    let is : c.args.fan.now ≡ c.in-Some.first.now ∷ c.behind_first.result.now = parted c.args.fan.now c.in-Some.first.now some w ∙ ap (λ (x : List ℕ). c.in-Some.first.now ∷ x) (sym c.behind_first.ensures) in
    agreed_by (λ w. is_some (meaning w) ≡ true) B c.args.own c.bit_along-bit.result true c.in-Some.first.now c.behind_first.result.now c.args.fan.now is c.requires c.bit_along-bit.ensures c.if-all_bring.ensures

pub returns-else-all_bring : goal.returns-else-all_bring
returns-else-all_bring c =
    let B : ℕ → Bool = λ w. tells c.args.self.now (front (path_field w)) in
    let some : 0 < length c.args.fan.now = search rules in
    let w : c.in-Some.first.now ≡ get_or c.args.fan.now 0 0 = search rules in
    let is : c.args.fan.now ≡ c.in-Some.first.now ∷ c.behind_first.result.now = parted c.args.fan.now c.in-Some.first.now some w ∙ ap (λ (x : List ℕ). c.in-Some.first.now ∷ x) (sym c.behind_first.ensures) in
    agreed_by (λ w. is_some (meaning w) ≡ true) B c.args.own c.bit_along-bit.result false c.in-Some.first.now c.behind_first.result.now c.args.fan.now is c.requires c.bit_along-bit.ensures c.if-all_bring.ensures

pub returns-in_default : goal.returns-in_default
returns-in_default c =
    let none : length c.args.fan.now ≡ 0 = search rules in
    agreed_none (λ w. tells c.args.self.now (front (path_field w))) c.args.own c.args.fan.now none
