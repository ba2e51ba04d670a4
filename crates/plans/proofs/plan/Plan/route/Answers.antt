use Rattle.std.proofs.Common.{rules, of_calls, ◌≡◌, ℕ, List, sym, ◌∙◌, subst}
use Rattle.words.specs.Words.{sites_of}
use Rattle.plans.specs.Plans.{sheet, network, Routes}
use Rattle.plans.specs.Taken.{route_path}
use Rattle.plans.proofs.Wholes.{plan_route_word, plan_route}
use Rattle.plans.proofs.plan.Plan.route.Goals as goal

pub map_or_else-requires-clause-f_callable : goal.map_or_else-requires-clause-f_callable
map_or_else-requires-clause-f_callable c = λ x e.
    let q = plan_route_word c.args.self.now c.args.set.bits c.args.from c.args.to x (sym c.find_route.ensures ∙ e) in
    search (rules, of_calls)

pub returns : goal.returns
unfolding network
returns c =
    let p = c.args.self.now in
    let F = c.args.set.bits in
    let e : sites_of c.map_or_else.result ≡ route_path (sheet p) F c.args.from c.args.to = search rules in
    record { value = e; way = subst (λ (l : List ℕ). Routes (network p) F c.args.from c.args.to l) (sym e) (plan_route p F c.args.from c.args.to) }
