use Rattle.std.proofs.Common.{◌≡◌, ℕ, Bool, true, false, List, map, sym, ap, ◌∙◌}
use Rattle.sites.specs.Sets.{in_set}
use Rattle.sites.specs.Keepers.{keepers}
use Rattle.words.specs.Layout.{path_field}
use Rattle.theory.specs.Weighing.{zeros}
use Rattle.notebooks.specs.Notebooks.{told_by}
use Rattle.tables.specs.Tables.{table_network}
use Rattle.rounds.proofs.Weighs.{weigh_keeps, weigh_takes}
use Rattle.rounds.proofs.phase.Phase.weigh.Goals as goal

pub returns-then-contains : goal.returns-then-contains
returns-then-contains g c =
    let t = c.args.self.now.heard.table.now in
    let N = g.P.Routing.network c.args.self.now.plan.now in
    let v : ℕ = t.site in
    let A : ℕ = c.keepers-among.result.bits in
    let hear : List ℕ → Bool = told_by (table_network t) v c.args.self.now.heard.notebook.now.words in
    let is : A ≡ keepers N.n N.f c.args.self.now.set.bits (zeros N hear c.args.self.now.set.bits c.args.self.now.own v) =
    c.keepers-among.ensures ∙ ap (keepers N.n N.f c.args.self.now.set.bits) c.zeros.ensures in
    let inside : in_set A v ≡ true = sym (c.if-contains.ensures ∙ ap (in_set A) c.site-site.ensures) in
    weigh_keeps N hear c.args.self.now.set.bits c.args.self.now.own v A is inside

pub returns : goal.returns
returns g c =
    let t = c.args.self.now.heard.table.now in
    let N = g.P.Routing.network c.args.self.now.plan.now in
    let v : ℕ = t.site in
    let A : ℕ = c.keepers-among.result.bits in
    let hear : List ℕ → Bool = told_by (table_network t) v c.args.self.now.heard.notebook.now.words in
    let is : A ≡ keepers N.n N.f c.args.self.now.set.bits (zeros N hear c.args.self.now.set.bits c.args.self.now.own v) =
    c.keepers-among.ensures ∙ ap (keepers N.n N.f c.args.self.now.set.bits) c.zeros.ensures in
    let outside : in_set A v ≡ false = sym (c.if-contains.ensures ∙ ap (in_set A) c.site-site.ensures) in
    let fan : map path_field c.fan-fan.result.now ≡ N.fan c.args.self.now.set.bits v A =
    c.fan-fan.ensures.paths ∙ ap (λ x. N.fan c.args.self.now.set.bits x A) c.site-site.ensures in
    c.agreed.ensures ∙ weigh_takes N hear c.args.self.now.set.bits c.args.self.now.own v A is outside path_field c.fan-fan.result.now fan
