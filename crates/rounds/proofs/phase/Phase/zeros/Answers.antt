use Rattle.std.proofs.Common.{◌≡◌, ℕ, ◌+◌, ◌^◌, ◌<◌, ◌≤◌, Bool, cond, not, eqb, sym, ap, ◌∙◌, arith, pow_mono}
use Rattle.std.proofs.lemmas.Nat.{one_shl}
use Rattle.sites.specs.Sets.{mask_of}
use Rattle.sites.specs.Lists.{front}
use Rattle.sites.proofs.Sets.{mask_of_below}
use Rattle.theory.specs.Weighing.{zeros}
use Rattle.notebooks.specs.Notebooks.{told_by}
use Rattle.tables.specs.Tables.{table_network}
use Rattle.tables.proofs.MaskSums.{mask_add, mask_skip, mask_none}
use Rattle.rounds.proofs.phase.Phase.zeros.Goals as goal
use Rattle.rounds.proofs.phase.Phase.zeros.Goals.{then-not-bit_from, else-not-bit_from}

pub loop-from-init : goal.loop-from-init
loop-from-init g c =
    let t = c.args.self.now.heard.table.now in
    mask_none (λ u. not (cond (eqb u t.site) c.args.self.now.own (told_by (table_network t) t.site c.args.self.now.heard.notebook.now.words (front ((g.P.Routing.network c.args.self.now.plan.now).route c.args.self.now.set.bits u t.site)))))

pub overflow_add-bits : goal.overflow_add-bits
overflow_add-bits g c =
    let t = c.args.self.now.heard.table.now in
    let G : ℕ → Bool = λ u. not (cond (eqb u t.site) c.args.self.now.own (told_by (table_network t) t.site c.args.self.now.heard.notebook.now.words (front ((g.P.Routing.network c.args.self.now.plan.now).route c.args.self.now.set.bits u t.site)))) in
    let u : ℕ = c.loop-from.from in
    let lt : u < 6 = omega (arith, c.site_count-from-end.ensures, g.met.P.Routing.few c.args.self.now.plan.now) in
    let le : 2 ^ u ≤ 2 ^ 5 = pow_mono {i = u} {j = 5} (omega arith) in
    omega (arith, one_shl u 32 (omega arith), mask_of_below u G, c.loop-from.invariant)

pub loop-from-preserved : goal.loop-from-preserved
loop-from-preserved g c =
    let t = c.args.self.now.heard.table.now in
    let G : ℕ → Bool = λ u. not (cond (eqb u t.site) c.args.self.now.own (told_by (table_network t) t.site c.args.self.now.heard.notebook.now.words (front ((g.P.Routing.network c.args.self.now.plan.now).route c.args.self.now.set.bits u t.site)))) in
    let u : ℕ = c.loop-from.from in
    let lt : u < 6 = omega (arith, c.site_count-from-end.ensures, g.met.P.Routing.few c.args.self.now.plan.now) in
    elim c.if-not-bit_from.branch [
      | then-not-bit_from w ↦ w.bits-is ∙ ap (λ x. c.loop-from.bits + x) (one_shl u 32 (omega arith)) ∙ ap (λ x. x + 2 ^ u) c.loop-from.invariant ∙ mask_add u G (ap not (sym w.if-not-bit_from.ensures))
      | else-not-bit_from w ↦ w.bits-is ∙ c.loop-from.invariant ∙ mask_skip u G (ap not (sym w.if-not-bit_from.ensures))
    ]

pub returns : goal.returns
unfolding zeros
returns g c =
    let t = c.args.self.now.heard.table.now in
    let G : ℕ → Bool = λ u. not (cond (eqb u t.site) c.args.self.now.own (told_by (table_network t) t.site c.args.self.now.heard.notebook.now.words (front ((g.P.Routing.network c.args.self.now.plan.now).route c.args.self.now.set.bits u t.site)))) in
    let e : c.loop-from.from ≡ (g.P.Routing.network c.args.self.now.plan.now).n = omega (arith, c.site_count-from-end.ensures) in
    c.loop-from.invariant ∙ ap (λ x. mask_of x G) e
