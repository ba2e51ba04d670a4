use Rattle.std.proofs.Common.{◌≡◌, ℕ, ◌+◌, ◌-◌, ◌/◌, ◌%◌, true, sym, ap, ◌∙◌}
use Rattle.runs.specs.State.{SiteRecord, is_sound}
use Rattle.theory.specs.Runs.{suspect}
use Rattle.floors.specs.Tables.{site_network}
use Rattle.floors.specs.Turns.{weighed_by}
use Rattle.floors.specs.Views.{seen, sound_of}
use Rattle.floors.proofs.Turned.{turned_then, turned_else}
use Rattle.floors.proofs.record.SiteRecord.turn.Goals as goal

pub returns-then-round-rounds : goal.returns-then-round-rounds
returns-then-round-rounds g c =
    let N = site_network c.args.ground.now.base in
    let n = c.site_count-n.result in
    let e = c.site_count-n.ensures.value in
    let turns = c.args.turns in
    let sound : is_sound N c.args.rogues.bits c.args.site ≡ true = ap (λ (k : ℕ). sound_of k c.args.rogues.bits c.args.site) (sym e) ∙ sym c.if-not-is_sound.ensures in
    let t = c.table-table.result.now in
    let F = c.suspect.result.bits in
    c.weigh.ensures ∙ ap (λ (x : SiteRecord). weighed_by N t F x) c.hear.ensures
    ∙ turned_then N c.args.site t c.table-table.ensures c.args.rogues.bits sound (g.A.Air.lanes c.args.air.now) turns (seen c.args.self.now) (turns % (n - 1) + 1) F
    (ap (λ (k : ℕ). turns % (k - 1) + 1) e) (c.if-round-rounds.true ∙ ap (λ (k : ℕ). k - 1) e) (c.suspect.ensures ∙ ap (λ (k : ℕ). suspect N (turns / (k - 1))) e)

pub returns-else-round-rounds : goal.returns-else-round-rounds
returns-else-round-rounds g c =
    let N = site_network c.args.ground.now.base in
    let n = c.site_count-n.result in
    let e = c.site_count-n.ensures.value in
    let turns = c.args.turns in
    let sound : is_sound N c.args.rogues.bits c.args.site ≡ true = ap (λ (k : ℕ). sound_of k c.args.rogues.bits c.args.site) (sym e) ∙ sym c.if-not-is_sound.ensures in
    c.hear.ensures
    ∙ turned_else N c.args.site c.table-table.result.now c.table-table.ensures c.args.rogues.bits sound (g.A.Air.lanes c.args.air.now) turns (seen c.args.self.now) (turns % (n - 1) + 1)
    (ap (λ (k : ℕ). turns % (k - 1) + 1) e) (λ h. c.if-round-rounds.false (h ∙ ap (λ (k : ℕ). k - 1) (sym e)))
