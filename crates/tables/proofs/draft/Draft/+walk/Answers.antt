use Rattle.std.proofs.Common.{◌≡◌, ℕ, ◌+◌, ◌-◌, ◌≤◌, true, List, ◌++◌, length, sym, ap, ◌∙◌, arith, length-append}
use Rattle.std.proofs.lemmas.Bool.{and_parts}
use Rattle.sites.specs.Sets.{in_set}
use Rattle.tables.specs.Joins.{join_from}
use Rattle.tables.specs.Steps.{can_go, gone_on, walks}
use Rattle.tables.specs.Drafts.{drafted}
use Rattle.tables.specs.declared.step.Step.{Step}
use Rattle.tables.specs.declared.expected_path.ExpectedPath.{ExpectedPath}
use Rattle.tables.specs.declared.draft.Draft.{Draft}
use Rattle.tables.proofs.Masks.{in_set_least}
use Rattle.tables.proofs.Joins.{join_hit, join_miss, join_end, join_room}
use Rattle.tables.proofs.Walked.{walks_more, small_more}
use Rattle.tables.proofs.draft.Draft.+walk.Goals as goal
use Rattle.tables.proofs.draft.Draft.+walk.Goals.{then-can, else-can}

pub on-requires : goal.on-requires
on-requires t c =
    let h : can_go c.args.step c.loop-s.s ≡ true = sym c.if-can.ensures in (
      omega arith,
      (
        in_set_least c.args.step.free.bits c.loop-s.s (and_parts (in_set c.args.step.near.bits c.loop-s.s) (in_set c.args.step.free.bits c.loop-s.s) h).1,
        omega arith,
      ),
    )

pub walk-requires : goal.walk-requires
walk-requires t c =
    let near : List ℕ = c.args.here.now.wiring.now.near in
    let st : Step = c.args.step in
    let i : ℕ = c.loop-s.s in
    let more = walks_more near c.args.here.now.site st c.args.left (omega arith) in
    let f : ℕ → List ExpectedPath = λ s. walks near c.args.here.now.site (gone_on near st s) (c.args.left - 1) in
    let h : can_go st i ≡ true = sym c.if-can.ensures in
    let le : length (drafted c.args.self.now ++ join_from (can_go st) f 0 6) ≤ 325 =
    omega (arith, length-append (drafted c.args.self.now) (join_from (can_go st) f 0 6), ap length more) in
    let room : length (drafted c.loop-s.self) + length (f i) ≤ 325 =
    join_room (can_go st) f (drafted c.loop-s.self) (drafted c.args.self.now ++ join_from (can_go st) f 0 6) i 6 325 (omega arith) h c.loop-s.invariant.0 le in
    let same : c.on.result ≡ gone_on near st i = c.on.ensures in (
      omega arith,
      (
        omega (arith, ap (λ (x : Step). length (walks near c.args.here.now.site x (c.args.left - 1))) same),
        omega (arith, ap (λ (x : Step). x.path.word) same, ap (λ (x : Step). x.unit) same, small_more st.path.word st.unit i c.args.left (omega arith) (omega arith) (omega arith)),
      ),
    )

pub loop-s-preserved : goal.loop-s-preserved
loop-s-preserved t c =
    let near : List ℕ = c.args.here.now.wiring.now.near in
    let st : Step = c.args.step in
    let i : ℕ = c.loop-s.s in
    let f : ℕ → List ExpectedPath = λ s. walks near c.args.here.now.site (gone_on near st s) (c.args.left - 1) in
    let rest : List ExpectedPath = join_from (can_go st) f (i + 1) (6 - (i + 1)) in
    elim c.if-can.branch [
      | then-can w ↦
          let came : drafted c.if-can.self ≡ drafted c.loop-s.self ++ f i =
          ap drafted w.self-is ∙ w.walk.ensures.paths ∙ ap (λ (x : Step). drafted c.loop-s.self ++ walks near c.args.here.now.site x (c.args.left - 1)) w.on.ensures in (
            ap (λ (x : List ExpectedPath). x ++ rest) came ∙ join_hit (can_go st) f (drafted c.loop-s.self) i 6 (omega arith) (sym w.if-can.ensures) ∙ c.loop-s.invariant.0,
            ap (λ (x : Draft). x.ends) w.self-is ∙ w.walk.ensures.ends ∙ c.loop-s.invariant.1,
          )
      | else-can w ↦ (
        ap (λ (x : Draft). drafted x ++ rest) w.self-is ∙ join_miss (can_go st) f (drafted c.loop-s.self) i 6 (omega arith) (sym w.if-can.ensures) ∙ c.loop-s.invariant.0,
        ap (λ (x : Draft). x.ends) w.self-is ∙ c.loop-s.invariant.1,
      )
    ]

pub returns : goal.returns
returns t c =
    let near : List ℕ = c.args.here.now.wiring.now.near in
    let st : Step = c.args.step in
    let f : ℕ → List ExpectedPath = λ s. walks near c.args.here.now.site (gone_on near st s) (c.args.left - 1) in
    record {
      paths =
          sym (join_end (can_go st) f (drafted c.loop-s.self) c.loop-s.s 6 (omega arith)) ∙ c.loop-s.invariant.0
          ∙ ap (λ x. drafted c.args.self.now ++ x) (sym (walks_more near c.args.here.now.site st c.args.left (omega arith)));
      ends = c.loop-s.invariant.1;
    }
