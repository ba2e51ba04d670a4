use Rattle.std.proofs.Common.{◌≡◌, ℕ, ◌<◌, ◌≤◌, eqb, length, get_or, IsTrue, ◌↔◌, rules}
use Rattle.std.proofs.iter.runs.Made.{chains}
use Rattle.std.proofs.lemmas.Bool.{eq-eqb, eqb-true}
use Rattle.sheets.specs.Parts.{edge_word}
use Rattle.sheets.proofs.Chains.{any_later}
use Rattle.sheets.proofs.parts.are_joined.Goals as goal

pub returns : goal.returns
returns c =
    let h : IsTrue c.any.result ↔ ((k : ℕ) × (1 ≤ k) × (k < length c.args.words.now) × (get_or c.args.words.now k 0 ≡ edge_word c.args.a c.args.b)) = search (rules, chains) in
    any_later (λ i. eqb (get_or c.args.words.now i 0) (edge_word c.args.a c.args.b)) (length c.args.words.now) c.any.result (
      λ t. let q = h.0 t in (q.0, q.1, q.2, eq-eqb _ _ q.3),
      λ q. h.1 (q.0, q.1, q.2, eqb-true _ _ q.3),
    )
