use Rattle.std.proofs.Common.{◌≡◌, ℕ, ◌+◌, ◌-◌, ◌<◌, ◌≢◌, List, map, length, get_or, ap, ◌∙◌, arith, below_more}
use Rattle.std.proofs.lemmas.List.{get_or-set_same, get_or-set_other, length-map}
use Rattle.theory.specs.Network.{Network}
use Rattle.theory.specs.Flooding.{expected_up_to}
use Rattle.tables.specs.Wirings.{wired}
use Rattle.tables.specs.Entries.{entry_of}
use Rattle.tables.specs.Drafts.{drafted}
use Rattle.tables.proofs.Listed.{level_more, level_room}
use Rattle.tables.proofs.draft.Draft.fill.Goals as goal

pub level-requires : goal.level-requires
level-requires c =
    let w = c.args.here.now.wiring.now in
    (omega arith, level_room w.n w.near c.args.here.now.site w.few c.args.here.now.inside c.loop-k.k (omega arith) (omega arith) (drafted c.loop-k.self) c.loop-k.invariant.listed)

pub loop-k-preserved : goal.loop-k-preserved
loop-k-preserved c =
    let w = c.args.here.now.wiring.now in
    let N : Network = wired w.n w.near in
    let v : ℕ = c.args.here.now.site in
    let k : ℕ = c.loop-k.k in
    let pos : 0 < k = omega arith in
    let now : drafted c.level.new.self ≡ map entry_of (expected_up_to N v k) =
    c.level.ensures.paths ∙ level_more w.n w.near v w.few c.args.here.now.inside k pos (omega arith) (drafted c.loop-k.self) c.loop-k.invariant.listed in
    let lt : k < length c.loop-k.self.ends = omega (arith, c.loop-k.self.six) in
    let back : k ≡ (k + 1) - 1 = omega arith in
    let ends : (j : ℕ) → j < k + 1 → get_or c.level.new.self.ends j 0 ≡ length (expected_up_to N v j) =
    below_more (λ j. get_or c.level.new.self.ends j 0 ≡ length (expected_up_to N v j)) k
    (λ j h. let ne : j ≢ k = omega arith in
    ap (λ (x : List ℕ). get_or x j 0) c.level.ensures.ends
    ∙ get_or-set_other c.loop-k.self.ends k j (length (drafted c.level.new.self)) 0 ne
    ∙ c.loop-k.invariant.counted j (omega arith))
    (ap (λ (x : List ℕ). get_or x k 0) c.level.ensures.ends
    ∙ get_or-set_same c.loop-k.self.ends k (length (drafted c.level.new.self)) 0 lt
    ∙ ap length now ∙ length-map (expected_up_to N v k) entry_of) in
    record {
      listed = now ∙ ap (λ x. map entry_of (expected_up_to N v x)) back;
      counted = λ j h. ends j (omega arith);
    }

pub returns : goal.returns
returns c =
    let e : c.loop-k.k ≡ 6 = omega arith in
    let w = c.args.here.now.wiring.now in
    record {
      listed = c.loop-k.invariant.listed ∙ ap (λ x. map entry_of (expected_up_to (wired w.n w.near) c.args.here.now.site (x - 1))) e;
      counted = λ j h. c.loop-k.invariant.counted j (omega arith);
    }
