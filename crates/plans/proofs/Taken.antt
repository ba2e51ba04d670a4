-- What the places that a plan finds hold.
use Rattle.std.proofs.Common.{◌≡◌, ℕ, ◌<◌, Bool, true, false, cond, ◌&&◌, eqb, List, length, is_some, Some, None, Ok, Option, arith}
use Rattle.std.proofs.lemmas.Bool.{and_parts, eqb-true}
use Rattle.sites.proofs.Positions.{first_is}
use Rattle.words.specs.Layout.{kind_field}
use Rattle.words.specs.Words.{meaning}
use Rattle.sheets.specs.Parts.{word_at, site_count, rogue_limit, later}
use Rattle.sheets.proofs.Passed.{some_words, path_at}
use Rattle.plans.specs.Complete.{judged, serves_route, route_place}
use Rattle.plans.specs.Taken.{suspect?, two_sites?, route_taken}
use Rattle.plans.proofs.Judged.{passes}

kept : (b : Bool) (o : Option ℕ) (i : ℕ) → cond b o None ≡ Some i → o ≡ Some i
kept true o i e = e
kept false o i e = absurd (let z : ◌≡◌ {A = ℕ} 0 1 = cc in omega arith)

-- the place of the route taken lies in the sheet, and its word is lawful
pub route_word : (ws : List ℕ) → judged ws ≡ Ok tt → (F u v i : ℕ) → route_taken ws F u v ≡ Some i → (i < length ws) × (is_some (meaning (word_at ws i)) ≡ true)
route_word ws ok F u v i e =
    let q = first_is (λ i. serves_route F u v (word_at ws i)) 1 (later ws) i (kept (suspect? (site_count ws) (rogue_limit ws) F && two_sites? ws u v) (route_place ws F u v) i e) in
    let hi : i < length ws = omega (arith, q.2, some_words ws (passes ws ok)) in
    let k = eqb-true (kind_field (word_at ws i)) 10 (and_parts (eqb (kind_field (word_at ws i)) 10) _ q.0).0 in
    (hi, (and_parts (is_some (meaning (word_at ws i))) _ (path_at ws (passes ws ok) i (omega (arith, q.1)) hi (omega arith))).0)
