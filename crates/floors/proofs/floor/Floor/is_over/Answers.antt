use Rattle.std.proofs.Common.{ℕ, ◌-◌, leb, ap, ◌∙◌, arith}
use Rattle.theory.specs.Runs.{phases}
use Rattle.site_plans.proofs.Made.{base_some}
use Rattle.floors.specs.Tables.{site_network}
use Rattle.floors.proofs.Turns.{whole_phases}
use Rattle.floors.proofs.floor.Floor.is_over.Goals as goal

pub returns : goal.returns
returns g c =
    let f = c.args.self.now in
    let N = site_network f.ground.base in
    ap (λ (k : ℕ). leb k c.phase.result) c.phases.ensures
    ∙ ap (leb (phases N)) c.phase.ensures
    ∙ whole_phases (phases N) f.turns (N.n - 1) (omega (arith, base_some f.ground.base))
