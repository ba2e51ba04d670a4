use Rattle.std.proofs.Common.{◌≡◌, ◌+◌, ◌<◌, ◌≤◌, [], length, get_or, set, sym, ap, ◌∙◌, subst, arith}
use Rattle.std.proofs.lemmas.List.{length-set, length-take-le}
use Rattle.airs.specs.Runs.{Sited, Filed, run_lanes}
use Rattle.airs.specs.Strips.{strip_run}
use Rattle.airs.proofs.Runs.{run_push, sited_push, filed_push, sum_more, set_keeps}
use Rattle.airs.proofs.Strips.{counted, free, pushed}
use Rattle.airs.proofs.strip.Strip.append.Goals as goal

pub bounds-self-place : goal.bounds-self-place
bounds-self-place c =
    let t = c.args.self.now in
    let s = c.args.site in
    let w = c.args.word in
    let below = c.requires.0 in
    let room : get_or t.counts s 0 < 160 = omega (arith, c.requires.1, counted t s below) in
    let six : length t.counts ≡ 6 = omega arith in
    free t s w below room six

pub bounds-self-count : goal.bounds-self-count
bounds-self-count c =
    let t = c.args.self.now in
    omega (arith, c.requires.1, counted t c.args.site c.requires.0)

pub invariant_of-self : goal.invariant_of-self
invariant_of-self c =
    let t = c.args.self.now in
    let s = c.args.site in
    let w = c.args.word in
    let below = c.requires.0 in
    let room : get_or t.counts s 0 < 160 = omega (arith, c.requires.1, counted t s below) in
    let six : length t.counts ≡ 6 = omega arith in
    let rows : length t.places ≡ 6 = omega arith in
    let l : s < length t.counts = omega arith in
    let f = free t s w below room six in
    let p = pushed t s w below room six c.pair.result c.pair.ensures in
    let n : t.len ≤ length t.run = omega arith in
    let r : get_or t.counts s 0 < length (get_or t.places s []) = omega (arith, t.wide s below) in
    let row = set (get_or t.places s []) (get_or t.counts s 0) t.len in
    record {
      long = length-set t.run t.len c.pair.result ∙ t.long;
      fits = omega (arith, f);
      whole = sum_more t.counts s l ∙ ap (λ x. x + 1) t.whole;
      wide = set_keeps (λ x. length x ≡ 160) 6 t.places s row [] rows (length-set (get_or t.places s []) (get_or t.counts s 0) t.len ∙ t.wide s below) t.wide;
      within = set_keeps (λ x. x ≤ 160) 6 t.counts s (get_or t.counts s 0 + 1) 0 six (omega arith) t.within;
      sited = subst Sited (sym p) (sited_push (strip_run t) s w below t.sited);
      filed = subst (Filed (set t.counts s (get_or t.counts s 0 + 1)) (set t.places s row)) (sym p) (filed_push t.counts t.places (strip_run t) s w t.len six rows below r (length-take-le t.len t.run n) t.filed);
    }

pub returns : goal.returns
returns c =
    let t = c.args.self.now in
    let s = c.args.site in
    let w = c.args.word in
    let below = c.requires.0 in
    let room : get_or t.counts s 0 < 160 = omega (arith, c.requires.1, counted t s below) in
    let six : length t.counts ≡ 6 = omega arith in
    let p = pushed t s w below room six c.pair.result c.pair.ensures in
    record { run = p; lanes = ap run_lanes p ∙ run_push (strip_run t) s w below }
