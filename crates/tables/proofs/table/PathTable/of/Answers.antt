use Rattle.std.proofs.Common.{◌≡◌, length, get_or, take, sym, ap, ◌∙◌, arith}
use Rattle.std.proofs.lemmas.List.{length-map}
use Rattle.theory.specs.Flooding.{expected_up_to}
use Rattle.tables.specs.Wirings.{wired}
use Rattle.tables.specs.Entries.{entry_of}
use Rattle.tables.proofs.table.PathTable.of.Goals as goal

pub invariant_of-result : goal.invariant_of-result
invariant_of-result c =
    let d = c.draft_of-draft.result in
    let w = c.args.wiring.now in
    let ps = expected_up_to (wired w.n w.near) c.args.site 5 in
    let e : d.len ≡ get_or d.ends 5 0 =
    c.draft_of-draft.ensures.len ∙ ap length c.draft_of-draft.ensures.lists.listed ∙ length-map ps entry_of ∙ sym (c.draft_of-draft.ensures.lists.counted 5 (omega arith)) in
    record {
      long = d.long;
      six = d.six;
      counted = λ k h. c.draft_of-draft.ensures.lists.counted k (omega arith);
      listed = ap (λ x. take x d.entries) (sym e) ∙ c.draft_of-draft.ensures.lists.listed;
    }
