use Rattle.std.proofs.Common.{◌≡◌, ℕ, List, [], map, length, get_or, sym, ap, ◌∙◌, arith}
use Rattle.theory.specs.Flooding.{expected_up_to}
use Rattle.tables.specs.Wirings.{wired}
use Rattle.tables.specs.Entries.{entry_of}
use Rattle.tables.proofs.MaskSums.{zeros_at}
use Rattle.tables.proofs.Listed.{up_to_none, up_to_strange}
use Rattle.tables.proofs.tables.draft_of.Goals as goal

pub fill-requires : goal.fill-requires
fill-requires c =
    let w = c.args.wiring.now in
    let none = up_to_none w.n w.near c.args.site w.few in
    record {
      listed = c.new-draft.ensures.paths ∙ sym (ap (map entry_of) none);
      counted = λ j h.
          let e : j ≡ 0 = omega arith in
          ap (λ (x : List ℕ). get_or x j 0) c.new-draft.ensures.ends ∙ zeros_at 6 j ∙ sym (ap length none) ∙ sym (ap (λ i. length (expected_up_to (wired w.n w.near) c.args.site i)) e);
    }

pub returns-else-site-wiring : goal.returns-else-site-wiring
returns-else-site-wiring c =
    let w = c.args.wiring.now in
    let strange : (k : ℕ) → expected_up_to (wired w.n w.near) c.args.site k ≡ [] = up_to_strange w.n w.near c.args.site w.few w.below (omega arith) in
    record {
      lists = record {
        listed = c.new-draft.ensures.paths ∙ sym (ap (map entry_of) (strange 5));
        counted = λ j h. ap (λ (x : List ℕ). get_or x j 0) c.new-draft.ensures.ends ∙ zeros_at 6 j ∙ sym (ap length (strange j));
      };
      len = c.new-draft.ensures.len ∙ sym (ap length c.new-draft.ensures.paths);
    }
