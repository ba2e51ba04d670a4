use Rattle.std.proofs.Common.{◌≡◌, ℕ, ◌&&◌, List, map, ap, ◌∙◌}
use Rattle.std.specs.List.{range_with_len}
use Rattle.sites.specs.Sets.{in_set}
use Rattle.theory.specs.Network.{Network}
use Rattle.plans.specs.Plans.{network}
use Rattle.plans.specs.Taken.{network_of}
use Rattle.runs.specs.State.{State, SiteRecord}
use Rattle.airs.specs.Lanes.{Lanes}
use Rattle.floors.specs.Views.{fresh, sound_of, built_in}
use Rattle.floors.proofs.floor.Floor.new.Goals as goal

parts : (N M : Network) (rs qs : List SiteRecord) (ls ms : Lanes) (rogues turns : ℕ) → N ≡ M → rs ≡ qs → ls ≡ ms →
    ◌≡◌ {A = State} (record { net = N; rogues = rogues; records = rs; lanes = ls; turns = turns }) (record { net = M; rogues = rogues; records = qs; lanes = ms; turns = turns })
parts N M rs qs ls ms rogues turns a b c = cc

pub returns : goal.returns
unfolding network
returns g c =
    let e = ap network_of c.built_in-plan.ensures in
    let n : c.site_count.result ≡ built_in.n = c.site_count.ensures.value ∙ ap (λ (N : Network). N.n) e in
    parts _ _ _ _ _ _ 0 0 (ap network c.of.ensures ∙ e)
    (c.opened.ensures ∙ ap (λ (k : ℕ). map (λ s. fresh (sound_of k 0 s && in_set 0 s)) (range_with_len 0 6)) n)
    c.clear.ensures
