use Rattle.std.proofs.Common.{ℕ, ◌+◌, ◌^◌, ◌<◌, ◌≤◌, Bool, sym, ap, ◌∙◌, arith, pow_mono}
use Rattle.std.proofs.lemmas.Nat.{one_shl}
use Rattle.sites.proofs.Sets.{mask_of_below}
use Rattle.tables.proofs.MaskSums.{mask_add, mask_skip, mask_none}
use Rattle.tables.proofs.wirings.hearers.Goals as goal
use Rattle.tables.proofs.wirings.hearers.Goals.{then-are_joined, else-are_joined}

pub loop-s-init : goal.loop-s-init
loop-s-init g c = mask_none (λ s. (g.P.Routing.network c.args.plan.now).joined c.args.site s)

pub overflow_add-mask : goal.overflow_add-mask
overflow_add-mask g c =
    let G : ℕ → Bool = λ s. (g.P.Routing.network c.args.plan.now).joined c.args.site s in
    let s : ℕ = c.loop-s.s in
    let lt : s < 6 = omega (arith, c.site_count-s-end.ensures, g.met.P.Routing.few c.args.plan.now) in
    let le : 2 ^ s ≤ 2 ^ 5 = pow_mono {i = s} {j = 5} (omega arith) in
    omega (arith, one_shl s 32 (omega arith), mask_of_below s G, c.loop-s.invariant)

pub loop-s-preserved : goal.loop-s-preserved
loop-s-preserved g c =
    let G : ℕ → Bool = λ s. (g.P.Routing.network c.args.plan.now).joined c.args.site s in
    let s : ℕ = c.loop-s.s in
    let lt : s < 6 = omega (arith, c.site_count-s-end.ensures, g.met.P.Routing.few c.args.plan.now) in
    elim c.if-are_joined.branch [
      | then-are_joined w ↦ w.mask-is ∙ ap (λ x. c.loop-s.mask + x) (one_shl s 32 (omega arith)) ∙ ap (λ x. x + 2 ^ s) c.loop-s.invariant ∙ mask_add s G (sym w.if-are_joined.ensures)
      | else-are_joined w ↦ w.mask-is ∙ c.loop-s.invariant ∙ mask_skip s G (sym w.if-are_joined.ensures)
    ]
