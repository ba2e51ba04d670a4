use Rattle.std.proofs.Common.{◌≡◌, ℕ, Bool, List, Some, None, Option, MatchOption, sym, ap, ◌∙◌, rules}
use Rattle.std.specs.Option.{option_map, IsSomeAnd}
use Rattle.words.specs.Words.{sites_of}
use Rattle.notebooks.specs.Notebooks.{bit_at}
use Rattle.tables.specs.Tables.{table_network}
use Rattle.rounds.proofs.Words.{noted_place}
use Rattle.rounds.proofs.notebook.Notebook.noted.Goals as goal

mapped : (book : List ℕ) (P : ℕ → Bool → Type 0) → ((i : ℕ) (b : Bool) → P i b → b ≡ bit_at book i) → (o : Option ℕ) (r : Option Bool) → MatchOption o (r ≡ None) (λ i. IsSomeAnd r (P i)) → r ≡ option_map (bit_at book) o
mapped book P h None r m = m
mapped book P h (Some i) None m = absurd m
mapped book P h (Some i) (Some b) m = ap (λ (x : Bool). Some x) (h i b m)

pub returns : goal.returns
returns c =
    let t = c.args.table.now in
    let book = c.args.self.now.words in
    mapped book _ (λ i b k. search rules) c.position.result c.map.result c.map.ensures.cases
    ∙ ap (λ (o : Option ℕ). option_map (bit_at book) o) c.position.ensures
    ∙ sym (noted_place (table_network t) t.site c.args.rounds book (sites_of c.args.path.now))
