-- Recalling by a table is recalling by the network.
use Rattle.std.proofs.Common.{◌≡◌, ℕ, Bool, true, false, cond, List, Some, None, Err, Option, sym, refl, ap, ◌∙◌}
use Rattle.sites.specs.declared.refusal.Refusal.TheVariants.{Path as Unlawful}
use Rattle.theory.specs.Flooding.{Word}
use Rattle.theory.specs.Runs.{Sound}
use Rattle.notebooks.specs.Notebooks.{noted}
use Rattle.tables.specs.Tables.{table_network}
use Rattle.tables.specs.declared.table.PathTable.{PathTable}
use Rattle.runs.specs.State.{State, site, rounds_noted}
use Rattle.runs.specs.Replies.{or_unheard, recalled_for, recalled_as}
use Rattle.runs.proofs.Accepted.{for_sound_is}
use Rattle.rounds.specs.Recalling.{asked, recall_of, or_unheard as or_refused}
use Rattle.floors.specs.Tables.{Fits}
use Rattle.site_plans.proofs.Fitted.{noted_fits}

same_refusal : (o : Option Bool) → or_refused o ≡ or_unheard o
same_refusal (Some b) = refl
same_refusal None = refl

module _ (st : State) (s : ℕ) (t : PathTable) (fits : Fits st.net s t) (sound : Sound st.net st.rogues s) where
  abbrev rounds : ℕ
  rounds = rounds_noted st.net st.turns

  by_bit : (b : Bool) (p : List ℕ) → recall_of (table_network t) t.site rounds (site st s).notebook (cond b None (Some p)) ≡ cond b (Err Unlawful) (recalled_for st s p)
  by_bit true p = refl
  by_bit false p =
      same_refusal (noted (table_network t) t.site rounds (site st s).notebook p)
      ∙ ap or_unheard (noted_fits st.net s t fits sound.0 rounds (site st s).notebook p)
      ∙ sym (for_sound_is st s (or_unheard (noted st.net s rounds (site st s).notebook p)) sound)

  pub recalled_is : (o : Option Word) → recall_of (table_network t) t.site rounds (site st s).notebook (asked o) ≡ recalled_as st s o
  recalled_is None = refl
  recalled_is (Some w) = by_bit w.bit w.path
