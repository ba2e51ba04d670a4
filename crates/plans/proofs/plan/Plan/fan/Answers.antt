use Rattle.std.proofs.Common.{rules, ◌≡◌, ℕ, List, map, sym, ap, subst}
use Rattle.words.specs.Layout.{path_field}
use Rattle.plans.specs.Plans.{sheet, network, FansAt}
use Rattle.plans.specs.Taken.{fan_words}
use Rattle.plans.proofs.Wholes.{plan_fan}
use Rattle.plans.proofs.plan.Plan.fan.Goals as goal

pub returns : goal.returns
unfolding network
returns c =
    let p = c.args.self.now in
    let F = c.args.set.bits in
    let A = c.args.among.bits in
    let w : c.map_or.result.now ≡ fan_words (sheet p) F c.args.at A = search rules in
    let e : map path_field c.map_or.result.now ≡ (network p).fan F c.args.at A = ap (map path_field) w in
    record {
      words = w;
      value = e;
      fan = subst (λ (l : List (List ℕ)). FansAt (network p) F c.args.at A l) (sym e) (plan_fan p F c.args.at A);
    }
