use Rattle.std.proofs.Common.{◌≡◌, ℕ, ◌+◌, ◌-◌, ◌<◌, ◌≤◌, List, length, take, drop, set, ap, ◌∙◌, arith}
use Rattle.std.proofs.lemmas.List.{length-map}
use Rattle.airs.specs.Lanes.{Lanes}
use Rattle.tables.specs.Entries.{entry_of}
use Rattle.tables.specs.Tables.{table_paths, table_level}
use Rattle.tables.specs.declared.expected_path.ExpectedPath.{ExpectedPath}
use Rattle.tables.proofs.TableFacts.{counts_rise, few}
use Rattle.rounds.proofs.Notes.{noted_none, noted_more, level_slice, round_noted, level_hearable}
use Rattle.rounds.proofs.notebook.Notebook.hear_round.Goals as goal

pub slice_bounds-paths-count : goal.slice_bounds-paths-count
slice_bounds-paths-count g c =
    let t = c.args.table.now in
    omega (arith, ap length c.up_to.ensures, length-map (table_paths t c.args.round) entry_of, counts_rise t c.args.round, c.first_of_round-start.ensures.value)

pub slice_bounds-paths-start : goal.slice_bounds-paths-start
slice_bounds-paths-start g c =
    let t = c.args.table.now in
    let h : c.first_of_round-start.result ≤ length c.up_to.result.now = omega (arith, ap length c.up_to.ensures, length-map (table_paths t c.args.round) entry_of, counts_rise t c.args.round, c.first_of_round-start.ensures.value) in
    h

pub loop-i-init : goal.loop-i-init
loop-i-init g c =
    let es = c.up_to.result.now in
    let start : ℕ = c.first_of_round-start.result in
    (c.new-ears.ensures (g.A.Air.lanes c.args.air.now), noted_none (g.A.Air.lanes c.args.air.now) start (take (length es - start) (drop start es)) c.args.self.now.words)

pub hear-requires : goal.hear-requires
hear-requires g c =
    let t = c.args.table.now in
    let es = c.up_to.result.now in
    let start : ℕ = c.first_of_round-start.result in
    let is = level_slice t c.args.round es start c.up_to.ensures c.first_of_round-start.ensures.value in
    let h = level_hearable t c.args.round (take (length es - start) (drop start es)) c.loop-i.i is c.loop-i-test.true in
    (c.loop-i.invariant.0, (h.low_last, h.low_word))

pub loop-i-preserved : goal.loop-i-preserved
loop-i-preserved g c =
    let t = c.args.table.now in
    let ls : Lanes = g.A.Air.lanes c.args.air.now in
    let es = c.up_to.result.now in
    let start : ℕ = c.first_of_round-start.result in
    let ps : List ExpectedPath = take (length es - start) (drop start es) in
    let is = level_slice t c.args.round es start c.up_to.ensures c.first_of_round-start.ensures.value in
    let book : List ℕ = c.args.self.now.words in
    let within : start + c.loop-i.i < length book =
    omega (arith, c.args.self.now.long, c.loop-i-test.true, ap length is, length-map (table_level t c.args.round) entry_of, counts_rise t c.args.round, few t c.args.round, c.first_of_round-start.ensures.value) in (
      c.hear.ensures.tuned,
      ap (λ (x : List ℕ). set x (start + c.loop-i.i) c.hear.result) c.loop-i.invariant.1
          ∙ noted_more ls start c.loop-i.i c.hear.result ps book c.loop-i-test.true within c.hear.ensures.heard,
    )

pub returns : goal.returns
returns g c =
    let t = c.args.table.now in
    let ls : Lanes = g.A.Air.lanes c.args.air.now in
    let es = c.up_to.result.now in
    let start : ℕ = c.first_of_round-start.result in
    let ps : List ExpectedPath = take (length es - start) (drop start es) in
    let is = level_slice t c.args.round es start c.up_to.ensures c.first_of_round-start.ensures.value in
    let end : c.loop-i.i ≡ length ps = omega (arith, c.loop-i-test.false, c.loop-i.auto.i-end) in
    c.loop-i.invariant.1 ∙ round_noted t c.args.round ls ps start c.loop-i.i c.args.self.now.words is c.first_of_round-start.ensures.value end

pub bounds-self-start : goal.bounds-self-start
bounds-self-start g c =
    let t = c.args.table.now in
    let es = c.up_to.result.now in
    let start : ℕ = c.first_of_round-start.result in
    let is = level_slice t c.args.round es start c.up_to.ensures c.first_of_round-start.ensures.value in
    omega (arith, c.loop-i-test.true, ap length is, length-map (table_level t c.args.round) entry_of, counts_rise t c.args.round, few t c.args.round, c.first_of_round-start.ensures.value)
