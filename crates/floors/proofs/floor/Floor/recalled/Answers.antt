use Rattle.std.proofs.Common.{ℕ, Ok, sym, ap, ◌∙◌}
use Rattle.notebooks.specs.Floods.{flood_in}
use Rattle.tables.specs.Tables.{table_network}
use Rattle.rounds.specs.Recalling.{recall_reply}
use Rattle.runs.specs.State.{SiteRecord}
use Rattle.runs.proofs.Accepted.{for_sound_ok}
use Rattle.floors.specs.Views.{record_at, view}
use Rattle.floors.proofs.Recalls.{recalled_is}
use Rattle.floors.proofs.floor.Floor.recalled.Goals as goal

pub returns : goal.returns
returns g c =
    let f = c.args.self.now in
    let st = view g.A.Air.lanes f in
    let s = c.args.site in
    let t = c.table.result.now in
    let ok = for_sound_ok st s (Ok tt) tt (sym c.in_ok-sound.ensures.answer) in
    c.recalled.ensures
    ∙ ap (λ (x : SiteRecord). recall_reply (table_network t) t.site c.rounds_heard.result x.notebook c.args.word) c.of.ensures
    ∙ ap (λ (k : ℕ). recall_reply (table_network t) t.site k (record_at f.records s).notebook c.args.word) c.rounds_heard.ensures
    ∙ recalled_is st s t c.table.ensures ok.0 (flood_in c.args.word)
