-- Six tables, one a site, and lists of paths.
use Rattle.std.proofs.Common.{◌≡◌, ℕ, ◌<◌, true, List, [], ◌∷◌, map, length, get_or, sym, refl, ap, ◌∙◌, arith}
use Rattle.std.proofs.lemmas.List.{get_or-map}
use Rattle.std.proofs.lemmas.Bool.{and_parts, and_from}
use Rattle.sites.specs.Lists.{same_path}
use Rattle.sites.proofs.Lists.{same_path_refl, same_path_true}
use Rattle.theory.specs.Network.{Network}
use Rattle.theory.specs.Flooding.{expected}
use Rattle.tables.specs.Tables.{network_of}
use Rattle.tables.specs.Wirings.{SameEdges}
use Rattle.tables.specs.declared.table.PathTable.{PathTable}
use Rattle.tables.specs.declared.wiring.Wiring.{Wiring}
use Rattle.site_plans.specs.declared.site_plan.SitePlan.{SitePlan}
use Rattle.tables.proofs.Edges.{edges_law}
use Rattle.floors.specs.Tables.{site_network, table_site, table_count, level_at, same_paths, Fits}

pub same_paths_refl : (ps : List (List ℕ)) → same_paths ps ps ≡ true
same_paths_refl [] = refl
same_paths_refl (p ∷ ps) = and_from (same_path p p) (same_paths ps ps) (same_path_refl p) (same_paths_refl ps)

pub same_paths_true : (ps qs : List (List ℕ)) → same_paths ps qs ≡ true → ps ≡ qs
same_paths_true [] [] e = refl
same_paths_true [] (q ∷ qs) e = absurd (let z : ◌≡◌ {A = ℕ} 0 1 = cc in omega arith)
same_paths_true (p ∷ ps) [] e = absurd (let z : ◌≡◌ {A = ℕ} 0 1 = cc in omega arith)
same_paths_true (p ∷ ps) (q ∷ qs) e =
    let h = and_parts (same_path p q) (same_paths ps qs) e in
    let a = same_path_true p q h.0 in
    let b = same_paths_true ps qs h.1 in cc

pub table_fits : (p : SitePlan) (ts : List PathTable) (s : ℕ) (d : PathTable) → length ts ≡ 6 → s < (site_network p).n → s < 6 → get_or (map table_site ts) s 0 ≡ s →
    get_or (map table_count ts) s 0 ≡ (site_network p).n → ((k : ℕ) → same_paths (get_or (map (level_at k) ts) s []) (expected (site_network p) s k) ≡ true) →
    Fits (site_network p) s (get_or ts s d)
table_fits p ts s d six below lt placed counted listed =
    let l : s < length ts = omega arith in
    record {
      site = sym (get_or-map table_site ts s d 0 l) ∙ placed;
      count = sym (get_or-map table_count ts s d 0 l) ∙ counted;
      levels = λ b k. sym (get_or-map (level_at k) ts s d [] l) ∙ same_paths_true _ _ (listed k);
      none = λ b k. absurd (omega arith);
    }

-- a table made from a wiring with the network's sites and edges
module _ (N : Network) (w : Wiring) (t : PathTable) (s : ℕ) (same : SameEdges N (network_of w)) (from : t.wiring ≡ w) (at : t.site ≡ s) where
  pub made_count : table_count t ≡ N.n
  made_count = ap (λ (x : Wiring). x.n) from ∙ sym same.sites

  pub made_level : (k : ℕ) → s < N.n → same_paths (level_at k t) (expected N s k) ≡ true
  made_level k l =
      let e : level_at k t ≡ expected N s k =
      ap (λ (x : Wiring). expected (network_of x) t.site k) from ∙ ap (λ (v : ℕ). expected (network_of w) v k) at ∙ sym (edges_law N (network_of w) s k same l).0 in
      ap (λ (ps : List (List ℕ)). same_paths ps (expected N s k)) e ∙ same_paths_refl (expected N s k)
