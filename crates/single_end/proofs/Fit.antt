-- What a single end does by its site's table is what the network has for the site.
use Rattle.std.proofs.Common.{◌≡◌, ℕ, ◌<◌, Bool, true, cond, eqb, List, Err, sym, ap, ◌∙◌, arith}
use Rattle.std.proofs.lemmas.Bool.{and_parts, eqb-true, cond-true}
use Rattle.sites.specs.declared.refusal.Refusal.TheVariants.{OtherPlan}
use Rattle.theory.specs.Network.{Network}
use Rattle.theory.specs.Weighing.{weigh}
use Rattle.theory.specs.Runs.{suspect}
use Rattle.airs.specs.Lanes.{Lanes}
use Rattle.notebooks.specs.Notebooks.{empty_book, take_round, owed_by_bits, told_by}
use Rattle.tables.specs.Tables.{table_network}
use Rattle.tables.specs.declared.table.PathTable.{PathTable}
use Rattle.rounds.specs.Speaking.{put_all_reply, put_all_next}
use Rattle.site_plans.specs.Tables.{Fits}
use Rattle.site_plans.proofs.Fitted.{owed_fits, note_fits, told_fits}
use Rattle.single_end.specs.Ends.{InRound, same_size, owed_by, speak_reply, speak_next}

-- a site of the plan at the start is one of a plan of the same size
pub still_here : (N : Network) (s n f : ℕ) → same_size N n f ≡ true → s < n → s < N.n
still_here N s n f same here = omega (arith, eqb-true N.n n (and_parts (eqb N.n n) (eqb N.f f) same).0)

module _ (N : Network) (s : ℕ) (t : PathTable) (fits : Fits N s t) (below : s < N.n) where
  pub owed_is : (r : ℕ) (held : Bool) (book : List ℕ) → owed_by_bits (table_network t) t.site r held book ≡ owed_by_bits N s r held book
  owed_is = owed_fits N s t fits below

  pub book_is : (r : ℕ) (hear : List ℕ → Bool) (book : List ℕ) → take_round (table_network t) t.site r hear book ≡ take_round N s r hear book
  book_is r hear book = note_fits N s t fits below r hear (cond (eqb r 1) empty_book book)

  pub weighed_is : (F p : ℕ) (own : Bool) (book : List ℕ) → F ≡ suspect N p → weigh N (told_by (table_network t) t.site book) F own t.site ≡ weigh N (told_by N s book) (suspect N p) own s
  weighed_is F p own book e =
      ap (λ (hear : List ℕ → Bool). weigh N hear F own t.site) (told_fits N s t fits below book)
      ∙ ap (weigh N (told_by N s book) F own) fits.site
      ∙ ap (λ (k : ℕ). weigh N (told_by N s book) k own s) e

module _ (size : ℕ) (N : Network) (ls : Lanes) (e : InRound) (book : List ℕ) (t : PathTable) (fits : Fits N e.site t) (same : same_size N e.n e.f ≡ true) (here : e.site < e.n) where
  abbrev ws : List ℕ
  ws = owed_by_bits (table_network t) t.site e.round e.holds book

  words_are : ws ≡ owed_by N e book
  words_are = owed_is N e.site t fits (still_here N e.site e.n e.f same here) e.round e.holds book

  pub spoken_reply : put_all_reply size ls t.site ws ≡ speak_reply size N ls e book
  spoken_reply =
      ap (λ (v : ℕ). put_all_reply size ls v ws) fits.site ∙ ap (put_all_reply size ls e.site) words_are
      ∙ sym (cond-true (same_size N e.n e.f) (put_all_reply size ls e.site (owed_by N e book)) (Err OtherPlan) same)

  pub spoken_next : put_all_next size ls t.site ws ≡ speak_next size N ls e book
  spoken_next =
      ap (λ (v : ℕ). put_all_next size ls v ws) fits.site ∙ ap (put_all_next size ls e.site) words_are
      ∙ sym (cond-true (same_size N e.n e.f) (put_all_next size ls e.site (owed_by N e book)) ls same)
