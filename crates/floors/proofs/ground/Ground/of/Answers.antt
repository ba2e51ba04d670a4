use Rattle.std.proofs.Common.{rules, ◌≡◌, ℕ, ◌<◌, List, [], length, get_or, ap, ◌∙◌, arith}
use Rattle.std.proofs.lemmas.List.{get_or-map}
use Rattle.theory.specs.Flooding.{expected}
use Rattle.tables.specs.declared.table.PathTable.{PathTable}
use Rattle.site_plans.specs.declared.site_plan.SitePlan.{SitePlan}
use Rattle.site_plans.proofs.Made.{base_few}
use Rattle.floors.specs.Tables.{site_network, table_site, table_count, level_at, same_paths}
use Rattle.floors.proofs.Six.{made_count, made_level}
use Rattle.floors.proofs.ground.Ground.of.Goals as goal

pub invariant_of-result : goal.invariant_of-result
invariant_of-result c =
    let base : SitePlan = record { plan = c.args.plan.now } in
    let N = site_network base in
    let w = c.of-wiring.result in
    let same = c.of-wiring.ensures in
    let ts : List PathTable = c.from_fn-tables.result in
    let items = c.from_fn-tables.ensures.items in
    let some : PathTable = items.each.1 in
    let made : (s : ℕ) → s < 6 → ((get_or ts s some).wiring ≡ w) × ((get_or ts s some).site ≡ s) = λ s l. let h = items.at s some l in search rules in
    let in_range : (s : ℕ) → s < 6 → s < length ts = λ s l. omega (arith, l, items.long) in
    record {
      six = items.long;
      placed = λ s l. get_or-map table_site ts s some 0 (in_range s l) ∙ (made s l).1;
      counted = λ s l. get_or-map table_count ts s some 0 (in_range s l) ∙ made_count N w (get_or ts s some) s same (made s l).0 (made s l).1;
      listed = λ s k l.
          let lt : s < 6 = omega (arith, l, base_few base) in
          ap (λ (ps : List (List ℕ)). same_paths ps (expected N s k)) (get_or-map (level_at k) ts s some [] (in_range s lt))
          ∙ made_level N w (get_or ts s some) s same (made s lt).0 (made s lt).1 k l;
    }
