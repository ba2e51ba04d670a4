use Rattle.std.proofs.Common.{◌≡◌, ℕ, ◌+◌, ◌-◌, Bool, cond, List, [], ◌∷◌, length, get_or, sym, refl, ap, ◌∙◌, subst, arith, rules}
use Rattle.std.proofs.lemmas.Bool.{eq-eqb, ne_eqb}
use Rattle.airs.specs.Lanes.{Lanes}
use Rattle.notebooks.specs.Floods.{flood_word}
use Rattle.tables.specs.Tables.{table_level, table_paths}
use Rattle.tables.specs.declared.table.PathTable.{PathTable}
use Rattle.tables.proofs.TableFacts.{counts_rise}
use Rattle.rounds.specs.Speaking.{owed_of, put_all_reply, put_all_next}
use Rattle.rounds.proofs.Owed.{opening}
use Rattle.rounds.proofs.speaking.put_owed.Goals as goal

abbrev first_word : Bool → List ℕ
first_word held = flood_word (record { path = []; bit = held }) ∷ []

owed_first : (r : ℕ) (held : Bool) (ws : List ℕ) → r ≡ 1 → first_word held ≡ owed_of r held ws
owed_first r held ws e = sym (ap (λ b. cond b (first_word held) ws) (eq-eqb r 1 e))

owed_later : (r : ℕ) (held : Bool) (ws : List ℕ) → (r ≡ 1 → ⊥) → ws ≡ owed_of r held ws
owed_later r held ws ne = sym (ap (λ b. cond b (first_word held) ws) (ne_eqb r 1 ne))

-- how many words a level has, between its places
level_count : (t : PathTable) (r k n m : ℕ) (ws : List ℕ) → k ≡ r - 1 → length ws ≡ length (table_level t (r - 1)) → n ≡ length (table_paths t k) → m ≡ length (table_paths t (k - 1)) → length ws ≡ n - m
level_count t r k n m ws e long above below =
    long ∙ sym (ap (λ (x : ℕ). length (table_level t x)) e) ∙ omega (arith, counts_rise t k)

pub returns-then-round-eq1-clause-after : goal.returns-then-round-eq1-clause-after
returns-then-round-eq1-clause-after g c = λ ws long given.
    let ls : Lanes = g.A.Air.lanes c.args.air.now in
    let size : ℕ = g.A.Air.size in
    let vs : List ℕ = first_word c.args.bit in
    c.put_all.ensures.after vs refl
    (λ k w lt p.
    let z : k ≡ 0 = omega arith in
    let is : w ≡ cond c.args.bit 0x10000001 0x10000000 = search rules in
    is ∙ sym (opening c.args.bit) ∙ sym (ap (λ (j : ℕ). get_or vs j 0) z))
    ∙ ap (λ s. put_all_next size ls s vs) c.site.ensures
    ∙ ap (put_all_next size ls c.args.table.now.site) (owed_first c.args.round c.args.bit ws c.if-round-eq1.true)

pub returns-clause-answer : goal.returns-clause-answer
returns-clause-answer g c = λ ws long.
    let t = c.args.table.now in
    let ls : Lanes = g.A.Air.lanes c.args.air.now in
    let size : ℕ = g.A.Air.size in
    let k : ℕ = c.saturating_sub-k.result in
    c.put_all-2.ensures.answer ws (level_count t c.args.round k c.count.result c.first_of_round.result ws c.saturating_sub-k.ensures long c.count.ensures.value c.first_of_round.ensures.value)
    ∙ ap (λ s. put_all_reply size ls s ws) c.site-2.ensures
    ∙ ap (put_all_reply size ls t.site) (owed_later c.args.round c.args.bit ws c.if-round-eq1.false)

pub returns-clause-after : goal.returns-clause-after
returns-clause-after g c = λ ws long given.
    let t = c.args.table.now in
    let ls : Lanes = g.A.Air.lanes c.args.air.now in
    let size : ℕ = g.A.Air.size in
    let k : ℕ = c.saturating_sub-k.result in
    let first : c.first_of_round.result ≡ length (table_paths t (c.args.round - 1 - 1)) = c.first_of_round.ensures.value ∙ ap (λ (x : ℕ). length (table_paths t (x - 1))) c.saturating_sub-k.ensures in
    c.put_all-2.ensures.after ws (level_count t c.args.round k c.count.result c.first_of_round.result ws c.saturating_sub-k.ensures long c.count.ensures.value c.first_of_round.ensures.value)
    (λ j w lt p. given j w lt (subst (λ (s : ℕ). g.F.Fn.post c.args.word (s + j, tt) w) first p))
    ∙ ap (λ s. put_all_next size ls s ws) c.site-2.ensures
    ∙ ap (put_all_next size ls t.site) (owed_later c.args.round c.args.bit ws c.if-round-eq1.false)
