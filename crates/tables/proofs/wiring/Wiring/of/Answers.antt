use Rattle.std.proofs.Common.{◌≡◌, ◌^◌, ◌<◌, ◌≤◌, get_or, sym, ap, ◌∙◌, ⊎_elim, arith, rules, pow_pos}
use Rattle.std.proofs.lemmas.Bool.{cases_lt}
use Rattle.std.proofs.lemmas.List.{get_or_past}
use Rattle.sites.specs.Sets.{in_set, mask_of}
use Rattle.sites.proofs.Sets.{mask_of_below, in_set_mask_of}
use Rattle.tables.proofs.wiring.Wiring.of.Goals as goal

pub returns : goal.returns
returns g c =
    let N = g.P.Routing.network c.args.plan.now in
    record {
      sites = sym c.site_count.ensures;
      edges = λ u s hu hs.
          let lt : u < 6 = omega (arith, g.met.P.Routing.few c.args.plan.now) in
          let h = c.from_fn.ensures.items.at u 0 lt in
          let is : get_or c.from_fn.result u 0 ≡ mask_of N.n (λ t. N.joined u t) = search rules in
          sym (ap (λ m. in_set m s) is ∙ in_set_mask_of N.n (λ t. N.joined u t) s hs);
    }

pub invariant_of-result : goal.invariant_of-result
invariant_of-result g c =
    let N = g.P.Routing.network c.args.plan.now in
    record {
      few = omega (arith, c.site_count.ensures, g.met.P.Routing.few c.args.plan.now);
      six = c.from_fn.ensures.items.long;
      below = λ u.
          ⊎_elim
          (λ (lt : u < 6).
          let h = c.from_fn.ensures.items.at u 0 lt in
          let is : get_or c.from_fn.result u 0 ≡ mask_of N.n (λ t. N.joined u t) = search rules in
          omega (arith, is, mask_of_below N.n (λ t. N.joined u t), ap (λ x. 2 ^ x) c.site_count.ensures))
          (λ (le : 6 ≤ u). omega (arith, get_or_past c.from_fn.result u 0 (omega (arith, c.from_fn.ensures.items.long)), pow_pos c.site_count.result))
          (cases_lt u 6);
    }
