use Rattle.std.proofs.Common.{◌≡◌, ℕ, ◌≤◌, false, Ok, sym, refl, ap, ◌∙◌, arith}
use Rattle.airs.specs.Lanes.{count_of}
use Rattle.runs.specs.State.{SiteRecord}
use Rattle.runs.proofs.Accepted.{for_sound_ok}
use Rattle.rounds.specs.Speaking.{put_all_reply, put_all_next}
use Rattle.floors.specs.Views.{record_at, owed_by, view}
use Rattle.site_plans.proofs.Made.{base_few}
use Rattle.floors.proofs.Speaks.{spoken_answer, spoken_state}
use Rattle.floors.proofs.floor.Floor.speak.Goals as goal

pub returns : goal.returns
returns g c =
    let f = c.args.self.now in
    let st = view g.A.Air.lanes f in
    let s = c.args.site in
    let t = c.table.result.now in
    let z = g.A.Air.size in
    let ls = g.A.Air.lanes f.air in
    let x = record_at f.records s in
    let ok = for_sound_ok st s (Ok tt) tt (sym c.in_ok-sound.ensures.answer) in
    let within : count_of ls s ≤ z = omega (arith, c.count.ensures, c.lane_size.ensures, c.if-count-lane_size.false) in
    let is = c.speak.ensures.answer ∙ ap (λ (k : ℕ). put_all_reply z ls t.site (owed_by t k x)) c.round-round.ensures in
    let put = c.speak.ensures.lanes ∙ ap (λ (k : ℕ). put_all_next z ls t.site (owed_by t k x)) c.round-round.ensures in
    let silent : x.spoken ≡ false = ap (λ (y : SiteRecord). y.spoken) (sym c.of.ensures) ∙ c.if-of.false in
    let few = base_few f.ground.base in
    record {
      answer = spoken_answer z st s t c.speak.result few ok.0 (sym c.if-is_over.ensures) silent within c.table.ensures is;
      after = spoken_state z st s t c.speak.result few ok.0 (sym c.if-is_over.ensures) silent within c.table.ensures is _ _ put c.speak.ensures.records;
      plan = refl;
    }
