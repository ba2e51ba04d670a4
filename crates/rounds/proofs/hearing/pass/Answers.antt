use Rattle.std.proofs.Common.{◌≡◌, ℕ, ◌<◌, ◌≤◌, true, false, MatchOption, rules, tests}
use Rattle.std.specs.List.{slice_get}
use Rattle.std.proofs.lemmas.Iterator.{first_from_Range}
use Rattle.airs.specs.Lanes.{lane}
use Rattle.rounds.specs.Ears.{stops_at}
use Rattle.rounds.proofs.Scans.{passed}
use Rattle.rounds.proofs.hearing.pass.Goals as goal

pub returns : goal.returns
returns g c =
    let ws = lane (g.A.Air.lanes c.args.air.now) c.args.site in
    let h : MatchOption c.find.result ((k : ℕ) → c.args.start ≤ k → k < c.count-count.result → stops_at c.args.wanted (slice_get ws k) ≡ false)
    (λ j. (c.args.start ≤ j) × (j < c.count-count.result) × (stops_at c.args.wanted (slice_get ws j) ≡ true) × ((k : ℕ) → c.args.start ≤ k → k < j → stops_at c.args.wanted (slice_get ws k) ≡ false)) =
    first_from_Range _ _ _ c.find.result (λ x. stops_at c.args.wanted (slice_get ws x) ≡ true) (λ x. stops_at c.args.wanted (slice_get ws x) ≡ false) c.find.ensures.ran (λ x q k. search (rules, tests)) (λ x q k. search (rules, tests)) in
    passed c.args.wanted ws c.args.start c.unwrap_or.result c.count-count.result c.find.result c.requires c.count-count.ensures h c.unwrap_or.ensures
