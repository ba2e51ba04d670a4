use Rattle.std.proofs.Common.{rules, ℕ, Some, ap, sym, ◌∙◌}
use Rattle.sites.proofs.Ranges.{found_number}
use Rattle.plans.proofs.Fans.{serves, count, fan_missing, fan_is, found_fits}
use Rattle.plans.proofs.checked.Fans.find.Goals as goal

pub returns-in_err-k : goal.returns-in_err-k
returns-in_err-k c =
    let x = c.args.self.now in
    let F = c.args.set.bits in
    let v = c.args.at in
    let A = c.args.among.bits in
    let found = found_number _ _ _ (serves x F v A) (search rules) (λ k b lo hi h. search rules) 0 (count x F v A) c.find.result (search rules) (search rules) c.find.ensures.runs in
    c.from_residual.ensures ∙ fan_missing x F v A (sym found ∙ c.in_err-k.was)

pub place-requires : goal.place-requires
place-requires c =
    let x = c.args.self.now in
    let F = c.args.set.bits in
    let v = c.args.at in
    let A = c.args.among.bits in
    let found = found_number _ _ _ (serves x F v A) (search rules) (λ k b lo hi h. search rules) 0 (count x F v A) c.find.result (search rules) (search rules) c.find.ensures.runs in
    let l = found_fits x F v A c.in_ok-k.k (sym found ∙ c.in_ok-k.was) in
    search rules

pub returns : goal.returns
returns c =
    let x = c.args.self.now in
    let F = c.args.set.bits in
    let v = c.args.at in
    let A = c.args.among.bits in
    let found = found_number _ _ _ (serves x F v A) (search rules) (λ k b lo hi h. search rules) 0 (count x F v A) c.find.result (search rules) (search rules) c.find.ensures.runs in
    ap (λ (k : ℕ). Some k) c.place.ensures ∙ fan_is x F v A c.in_ok-k.k (sym found ∙ c.in_ok-k.was)
