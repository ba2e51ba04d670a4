use Rattle.std.proofs.Common.{◌<◌, map, length, set, sym, ap, ◌∙◌, arith}
use Rattle.std.proofs.lemmas.List.{map-set}
use Rattle.airs.specs.Lanes.{kept}
use Rattle.runs.specs.State.{SiteRecord, blank}
use Rattle.runs.specs.Replies.{as_spoken}
use Rattle.floors.specs.Views.{seen, record_at}
use Rattle.floors.proofs.Seen.{seen_at}
use Rattle.floors.proofs.Speaks.{set_kept}
use Rattle.floors.proofs.record.Records.speak.Goals as goal

pub returns-clause-records : goal.returns-clause-records
returns-clause-records g c =
    let rs = c.args.self.now.sites in
    let s = c.args.site in
    let l : s < length rs = omega arith in
    let at = sym (seen_at rs s c.index-self-site.result l) in
    map-set seen rs s c.speak.new.self
    ∙ ap (λ (x : SiteRecord). set (map seen rs) s x) (c.speak.ensures.record ∙ ap (λ (x : SiteRecord). kept c.speak.result (as_spoken x) x) at)
    ∙ set_kept c.speak.result (map seen rs) s (as_spoken (record_at c.args.self.now s)) blank
