use Rattle.std.proofs.Common.{◌≡◌, ◌+◌, ◌<◌, cond, map, length, get_or, sym, ap, ◌∙◌, subst, arith}
use Rattle.std.proofs.lemmas.List.FromFn.{fill_by_all}
use Rattle.std.proofs.lemmas.List.{map-set, length-map}
use Rattle.runs.specs.State.{SiteRecord, blank, site, is_sound}
use Rattle.runs.specs.Replies.{turned_site}
use Rattle.floors.specs.Tables.{site_network}
use Rattle.floors.specs.Turns.{turned_by}
use Rattle.floors.specs.Views.{seen, state_of}
use Rattle.floors.proofs.Seen.{seen_at}
use Rattle.floors.proofs.Turned.{Done, done_set, turned_each}
use Rattle.floors.proofs.record.Records.turn.Goals as goal

pub loop-site-preserved : goal.loop-site-preserved
loop-site-preserved g c =
    let base = c.args.ground.now.base in
    let N = site_network base in
    let ls = g.A.Air.lanes c.args.air.now in
    let st = state_of base c.args.rogues.bits c.args.self.now ls c.args.turns in
    let rs = c.loop-site.record-items in
    let i = c.loop-site.site in
    let old = map seen c.args.self.now.sites in
    let F = turned_site st in
    let inv = c.loop-site.invariant in
    let lm : i < length (map seen rs) = omega (arith, inv.six) in
    let l : i < length rs = omega (arith, length-map rs seen) in
    let y = c.turn.new.self in
    let was : seen (get_or rs i c.record-item.result) ≡ site st i = sym (seen_at rs i c.record-item.result l) ∙ inv.still i (omega arith) in
    let is : seen y ≡ F i = c.turn.ensures ∙ ap (λ (x : SiteRecord). cond (is_sound N c.args.rogues.bits i) (turned_by N ls c.args.turns i x) x) was ∙ turned_each st i in
    subst (Done F old (i + 1)) (sym (map-set seen rs i y)) (done_set F old (map seen rs) i (seen y) lm inv is)

pub returns : goal.returns
returns g c =
    let base = c.args.ground.now.base in
    let st = state_of base c.args.rogues.bits c.args.self.now (g.A.Air.lanes c.args.air.now) c.args.turns in
    let rs = c.loop-site.record-items in
    let six : length (map seen rs) ≡ length rs = length-map rs seen in
    fill_by_all (turned_site st) (map seen rs) 6 blank c.loop-site.invariant.six (λ k l. c.loop-site.invariant.done k (omega (arith, c.loop-site.invariant.six)))
