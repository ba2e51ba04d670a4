-- One place of row 5, in a loop that passes refusals on by `?`.
use Rattle.std.proofs.Common.{◌≡◌, ℕ, ◌-◌, ◌<◌, ◌≤◌, Bool, true, false, cond, ◌&&◌, leb, List, is_some, Some, None, Ok, Err, Option, sym, ap, ◌∙◌, ⊎_elim, arith}
use Rattle.std.proofs.lemmas.Bool.{cases_Bool, cond-true, cond-false, and_right, and_from, le-leb, not_from_true, not_from_false}
use Rattle.sites.specs.declared.refusal.Refusal.{Refusal}
use Rattle.sites.specs.declared.refusal.Refusal.TheVariants.{Path}
use Rattle.sites.specs.Positions.{first_from}
use Rattle.sites.proofs.Positions.{first_hit}
use Rattle.words.specs.declared.kind.Kind.{Kind}
use Rattle.words.specs.Layout.{kind_field, path_field}
use Rattle.words.specs.Kinds.{kind_named}
use Rattle.words.specs.Words.{Meaning, meaning, meaning_as, fields_as}
use Rattle.sheets.specs.declared.refusal.SheetRefusal.{SheetRefusal}
use Rattle.sheets.specs.Parts.{word_at, path_word?}
use Rattle.sheets.specs.Rows.{bad_path}
use Rattle.sheets.specs.Refusals.{told}
use Rattle.sheets.specs.Steps.{wired, path_told}

-- the loop's turn at i ends with the refusal of i, or goes on
pub told_stop : (f : Refusal) (p : ℕ → Bool) (i n : ℕ) (e : SheetRefusal) → i < n → Err e ≡ told f (cond (p i) (Some i) None) → Err e ≡ told f (first_from p i (n - i))
told_stop f p i n e h q =
    ⊎_elim
    (λ t. q ∙ ap (told f) (cond-true (p i) (Some i) None t ∙ sym (first_hit p i n h t)))
    (λ t. absurd (let z : ◌≡◌ {A = ℕ} 0 1 = cc (q, ap (told f) (cond-false (p i) (Some i) None t)) in omega arith))
    (cases_Bool (p i))

pub told_on : (f : Refusal) (p : ℕ → Bool) (i : ℕ) → Ok tt ≡ told f (cond (p i) (Some i) None) → p i ≡ false
told_on f p i q =
    ⊎_elim
    (λ t. absurd (let z : ◌≡◌ {A = ℕ} 0 1 = cc (q, ap (told f) (cond-true (p i) (Some i) None t)) in omega arith))
    (λ t. t)
    (cases_Bool (p i))

-- the sites of a lawful word are those that it names
sites_as : (w : ℕ) (k : Option Kind) (m : Meaning) → meaning_as w k ≡ Some m → m.sites ≡ path_field w
sites_as w None m e = absurd (let z : ◌≡◌ {A = ℕ} 0 1 = cc in omega arith)
sites_as w (Some k) m e = go _ e
  where
    go : (b : Bool) → cond b (Some (fields_as w k)) None ≡ Some m → m.sites ≡ path_field w
    go true e = let d : fields_as w k ≡ m = cc in sym (ap (λ (x : Meaning). x.sites) d)
    go false e = absurd (let z : ◌≡◌ {A = ℕ} 0 1 = cc in omega arith)

pub sites_named : (w : ℕ) (m : Meaning) → meaning w ≡ Some m → m.sites ≡ path_field w
sites_named w m e = sites_as w (kind_named (kind_field w)) m e

pub path_tested : (ws : List ℕ) (w : ℕ) (m : Meaning) → meaning w ≡ Some m → path_word? ws w ≡ wired ws m.sites
path_tested ws w m e =
    ap (λ (b : Bool). b && wired ws (path_field w)) (ap is_some e) ∙ ap (wired ws) (sym (sites_named w m e))

module _ (ws : List ℕ) (i : ℕ) where
  told_bad : (b : Bool) → bad_path ws i ≡ b → path_told ws i ≡ told Path (cond b (Some i) None)
  told_bad b e = ap (λ (x : Bool). told Path (cond x (Some i) None)) e

  pub path_passes : path_word? ws (word_at ws i) ≡ true → Ok tt ≡ path_told ws i
  path_passes e = sym (told_bad false (and_right (leb 10 (kind_field (word_at ws i))) _ (not_from_true _ e)))

  pub path_fails : 10 ≤ kind_field (word_at ws i) → path_word? ws (word_at ws i) ≡ false → Err (record { refusal = Path; place = i }) ≡ path_told ws i
  path_fails h e = sym (told_bad true (and_from _ _ (le-leb 10 (kind_field (word_at ws i)) h) (not_from_false _ e)))
