use Rattle.std.proofs.Common.{rules, tests, ◌≡◌, ◌<◌, true, false, length, get_or, Err, sym, ap, ◌∙◌}
use Rattle.sheets.specs.declared.refusal.SheetRefusal.{SheetRefusal}
use Rattle.sheets.specs.Refusals.{told}
use Rattle.plans.specs.Complete.{sets}
use Rattle.plans.proofs.Chains.{one_fails, one_passes, none_fails}
use Rattle.plans.proofs.checked.Checked.each_set.Goals as goal

pub returns-then-not-passes : goal.returns-then-not-passes
returns-then-not-passes g c = λ test h.
    let ws = c.args.self.now.words.now in
    let l : c.loop-k.k < length (sets ws) = search rules in
    let b : c.unwrap-set.result.bits ≡ get_or (sets ws) c.loop-k.k 0 = search (rules, tests) in
    let e : c.passes.result ≡ test c.unwrap-set.result.bits = h c.unwrap-set.result c.passes.result c.passes.ensures in
    let f : c.passes.result ≡ false = search rules in
    ap (λ (x : SheetRefusal). Err x) c.refused_for.ensures ∙ ap (told c.args.refusal) (one_fails test (sets ws) c.loop-k.k c.unwrap-set.result.bits l b (sym e ∙ f) (c.loop-k.invariant.1 test h))

pub loop-k-preserved : goal.loop-k-preserved
loop-k-preserved g c = (
  c.loop-k.invariant.0,
  λ test h.
      let ws = c.args.self.now.words.now in
      let l : c.loop-k.k < length (sets ws) = search rules in
      let b : c.unwrap-set.result.bits ≡ get_or (sets ws) c.loop-k.k 0 = search (rules, tests) in
      let e : c.passes.result ≡ test c.unwrap-set.result.bits = h c.unwrap-set.result c.passes.result c.passes.ensures in
      let f : c.passes.result ≡ true = search rules in
      one_passes test (sets ws) c.loop-k.k c.unwrap-set.result.bits l b (sym e ∙ f) (c.loop-k.invariant.1 test h),
)

pub returns : goal.returns
returns g c = λ test h.
    let ws = c.args.self.now.words.now in
    ap (told c.args.refusal) (none_fails test (sets ws) c.loop-k.k (search rules) (c.loop-k.invariant.1 test h))
