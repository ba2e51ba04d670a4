-- What a turn does to one record, and to all.
use Rattle.std.proofs.Common.{◌≡◌, ℕ, ◌+◌, ◌-◌, ◌/◌, ◌%◌, ◌<◌, ◌≤◌, Bool, true, false, cond, not, eqb, ltb, List, length, get_or, set, sym, refl, ap, ◌∙◌, ⊎_elim, arith, eq-eqb, ne_eqb}
use Rattle.std.proofs.lemmas.List.{get_or-set_same, get_or-set_other, length-set}
use Rattle.std.proofs.lemmas.Bool.{cases_eq, ltb-true, and_parts, cond-true}
use Rattle.sites.specs.Sets.{in_set}
use Rattle.theory.specs.Network.{Network}
use Rattle.theory.specs.Weighing.{weigh}
use Rattle.theory.specs.Runs.{suspect}
use Rattle.airs.specs.Lanes.{Lanes, lane}
use Rattle.notebooks.specs.Floods.{heard_in}
use Rattle.notebooks.specs.Notebooks.{empty_book, told_by}
use Rattle.tables.specs.declared.table.PathTable.{PathTable}
use Rattle.runs.specs.State.{State, SiteRecord, blank, site, is_sound}
use Rattle.runs.specs.Replies.{noting, weighed, turned_site}
use Rattle.floors.specs.Tables.{Fits}
use Rattle.floors.specs.Turns.{noting_in, noted_by, weighed_by, turned_by}
use Rattle.site_plans.proofs.Fitted.{note_fits, told_fits}

-- ---- one record

module _ (N : Network) (s : ℕ) (t : PathTable) (fits : Fits N s t) (rogues : ℕ) (sound : is_sound N rogues s ≡ true) (ls : Lanes) (turns : ℕ) (x : SiteRecord) where
  below : s < N.n
  below = ltb-true s N.n (and_parts (ltb s N.n) (not (in_set rogues s)) sound).0

  abbrev r0 : ℕ
  r0 = turns % (N.n - 1) + 1

  abbrev heard : SiteRecord
  heard = record { holds = x.holds; spoken = false; notebook = noting_in N ls s r0 x.notebook }

  heard_is : (r : ℕ) → r ≡ r0 → noted_by t ls r x ≡ heard
  heard_is r e =
      ap (λ (k : ℕ). noted_by t ls k x) e
      ∙ ap (λ (b : List ℕ). record { holds = x.holds; spoken = false; notebook = b }) (note_fits N s t fits below r0 (heard_in (lane ls)) (cond (eqb r0 1) empty_book x.notebook))

  pub turned_else : (r : ℕ) → r ≡ r0 → (r ≡ N.n - 1 → ⊥) → noted_by t ls r x ≡ cond (is_sound N rogues s) (turned_by N ls turns s x) x
  turned_else r e h =
      heard_is r e
      ∙ ap (λ (b : Bool). record { holds = cond b (weigh N (told_by N s heard.notebook) (suspect N (turns / (N.n - 1))) x.holds s) x.holds; spoken = false; notebook = heard.notebook })
      (sym (ne_eqb r0 (N.n - 1) (λ k. h (e ∙ k))))
      ∙ sym (cond-true (is_sound N rogues s) (turned_by N ls turns s x) x sound)

  pub turned_then : (r F : ℕ) → r ≡ r0 → r ≡ N.n - 1 → F ≡ suspect N (turns / (N.n - 1)) → weighed_by N t F (noted_by t ls r x) ≡ cond (is_sound N rogues s) (turned_by N ls turns s x) x
  turned_then r F e h f =
      ap (weighed_by N t F) (heard_is r e)
      ∙ ap (λ (hear : List ℕ → Bool). record { holds = weigh N hear F x.holds t.site; spoken = false; notebook = heard.notebook }) (told_fits N s t fits below heard.notebook)
      ∙ ap (λ (v : ℕ). record { holds = weigh N (told_by N s heard.notebook) F x.holds v; spoken = false; notebook = heard.notebook }) fits.site
      ∙ ap (λ (k : ℕ). record { holds = weigh N (told_by N s heard.notebook) k x.holds s; spoken = false; notebook = heard.notebook }) f
      ∙ ap (λ (b : Bool). record { holds = cond b (weigh N (told_by N s heard.notebook) (suspect N (turns / (N.n - 1))) x.holds s) x.holds; spoken = false; notebook = heard.notebook })
      (sym (eq-eqb r0 (N.n - 1) (sym e ∙ h)))
      ∙ sym (cond-true (is_sound N rogues s) (turned_by N ls turns s x) x sound)

-- ---- all records

pub turned_each : (st : State) (v : ℕ) → cond (is_sound st.net st.rogues v) (turned_by st.net st.lanes st.turns v (site st v)) (site st v) ≡ turned_site st v
unfolding noting weighed
turned_each st v = refl

-- the records of the first i sites are done, the others are as they were
pub record Done (F : ℕ → SiteRecord) (old : List SiteRecord) (i : ℕ) (xs : List SiteRecord) : Type 0 where
  pub six : length xs ≡ 6
  pub done : (k : ℕ) → k < i → get_or xs k blank ≡ F k
  pub still : (k : ℕ) → i ≤ k → get_or xs k blank ≡ get_or old k blank

pub done_set : (F : ℕ → SiteRecord) (old xs : List SiteRecord) (i : ℕ) (y : SiteRecord) → i < length xs → Done F old i xs → y ≡ F i → Done F old (i + 1) (set xs i y)
done_set F old xs i y l d e = record {
  six = length-set xs i y ∙ d.six;
  done = λ k h. ⊎_elim
      (λ (q : k ≡ i). ap (λ (j : ℕ). get_or (set xs i y) j blank) q ∙ get_or-set_same xs i y blank l ∙ e ∙ ap F (sym q))
      (λ q. get_or-set_other xs i k y blank q ∙ d.done k (omega arith))
      (cases_eq k i);
  still = λ k h. get_or-set_other xs i k y blank (λ q. omega arith) ∙ d.still k (omega arith);
}
