use Rattle.std.proofs.Common.{◌≡◌, ℕ, ◌<◌, ◌≤◌, List, length, None, Some, Option, Bor, ap, ◌∙◌, sym, arith}
use Rattle.std.specs.List.{slice_get, HoldsAt}
use Rattle.std.specs.Option.{option_copied, MatchOption}
use Rattle.std.proofs.lemmas.Option.{slice_get_past, slice_get-get_or}
use Rattle.airs.specs.Lanes.{lane}
use Rattle.airs.specs.SixLanes.{six_lanes, words_of}
use Rattle.airs.proofs.SixLanes.{lane_is}
use Rattle.airs.proofs.six_lanes.SixLanes.at.Goals as goal

copied_is : (ws : List ℕ) (k : ℕ) (r : Option (Bor ℕ)) → MatchOption r (length ws ≤ k) (λ x. (k < length ws) × HoldsAt (λ w. x.now ≡ w) ws k) → option_copied r ≡ slice_get ws k
copied_is ws k None h = sym (slice_get_past ws k h)
copied_is ws k (Some x) h = ap Some (h.1 x.now) ∙ sym (slice_get-get_or ws k x.now h.0)

pub returns : goal.returns
returns g c =
    let ls = c.args.self.now.lanes in
    let is : lane (six_lanes c.args.self.now) c.args.site ≡ c.deref.result.now =
    lane_is ls c.args.site c.in_ok-get.field-0.now (omega arith) (omega (arith, c.in_ok-get.ensures.lookup.3.0)) ∙ ap words_of (sym c.in_ok-get.ensures.lookup.1) ∙ sym c.deref.ensures.0 in
    c.copied.ensures
    ∙ copied_is c.deref.result.now c.args.position c.get-2.result c.get-2.ensures.lookup.3
    ∙ ap (λ x. slice_get x c.args.position) (sym is)
