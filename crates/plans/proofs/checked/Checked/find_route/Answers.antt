use Rattle.std.proofs.Common.{rules, ℕ, Some, ap, sym, ◌∙◌}
use Rattle.sites.proofs.Ranges.{found_number}
use Rattle.sheets.specs.Parts.{later}
use Rattle.plans.proofs.Routes.{serves, route_missing, route_is, found_fits}
use Rattle.plans.proofs.checked.Checked.find_route.Goals as goal

pub returns-in_err-k : goal.returns-in_err-k
returns-in_err-k c =
    let ws = c.args.self.now.words.now in
    let found = found_number _ _ _ (serves ws c.args.set.bits c.args.from c.args.to) (search rules) (λ k b lo hi h. search rules) 0 (later ws) c.find.result (search rules) (search rules) c.find.ensures.runs in
    c.from_residual.ensures ∙ route_missing ws c.args.set.bits c.args.from c.args.to (sym found ∙ c.in_err-k.was)

pub place-requires : goal.place-requires
place-requires c =
    let ws = c.args.self.now.words.now in
    let found = found_number _ _ _ (serves ws c.args.set.bits c.args.from c.args.to) (search rules) (λ k b lo hi h. search rules) 0 (later ws) c.find.result (search rules) (search rules) c.find.ensures.runs in
    found_fits ws c.args.set.bits c.args.from c.args.to c.in_ok-k.k (sym found ∙ c.in_ok-k.was)

pub returns : goal.returns
returns c =
    let ws = c.args.self.now.words.now in
    let found = found_number _ _ _ (serves ws c.args.set.bits c.args.from c.args.to) (search rules) (λ k b lo hi h. search rules) 0 (later ws) c.find.result (search rules) (search rules) c.find.ensures.runs in
    ap (λ (x : ℕ). Some x) c.place.ensures ∙ route_is ws c.args.set.bits c.args.from c.args.to c.in_ok-k.k (sym found ∙ c.in_ok-k.was)
