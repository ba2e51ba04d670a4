-- The records of a floor, one by one.
use Rattle.std.proofs.Common.{◌≡◌, ℕ, ◌<◌, List, map, length, get_or}
use Rattle.std.proofs.lemmas.List.{get_or-map}
use Rattle.runs.specs.State.{blank}
use Rattle.floors.specs.declared.record.SiteRecord.{SiteRecord}
use Rattle.floors.specs.Views.{seen}

pub seen_at : (rs : List SiteRecord) (s : ℕ) (d : SiteRecord) → s < length rs → get_or (map seen rs) s blank ≡ seen (get_or rs s d)
seen_at rs s d l = get_or-map seen rs s d blank l
