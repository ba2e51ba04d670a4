-- Flooding: what is put on the air, what is heard along a path, and the paths along which a site expects a bit.
use Rattle.std.specs.Prelude.{ℕ, zero, suc, ◌+◌, Bool, true, cond, not, ◌&&◌, List, [], ◌∷◌, ◌++◌, map, length, filter}
use Rattle.std.specs.List.{range_with_len}
use Rattle.sites.specs.Lists.{has, front, final, same_path, join_all}
use Rattle.theory.specs.Network.{Network}

-- a path and the bit that came along it
pub record Word : Type 0 where
  pub path : List ℕ
  pub bit : Bool

-- what was put on the air: said t u are the words that site u put in turn t, in their order; turns are counted from 0
abbrev pub Said : Type 0
Said = ℕ → ℕ → List Word

-- the bit of the first word with the path p; silence is read as 1
unfoldable pub first_bit : List Word → List ℕ → Bool
first_bit [] p = true
first_bit (w ∷ ws) p = cond (same_path w.path p) w.bit (first_bit ws p)

-- The bit heard along a path, in the phase whose first turn is start. A path of k sites is heard in round k, from its last site, under the path that led there.
-- Who hears it does not occur here: all neighbours of a site hear the same.
unfoldable pub heard : Said → ℕ → List ℕ → Bool
heard said start p = first_bit (said (start + length (front p)) (final p)) (front p)

-- the bit that u flooded in the phase whose first turn is start, be it sound or rogue
abbrev pub flooded : Said → ℕ → ℕ → Bool
flooded said start u = heard said start (u ∷ [])

-- whether a path may go on to the site s: an edge leads there from its last site, and it is not on the path; the empty path may go on to any site
abbrev pub goes_on : Network → List ℕ → ℕ → Bool
goes_on N [] s = true
goes_on N (x ∷ xs) s = N.joined (final (x ∷ xs)) s && not (has s (x ∷ xs))

-- a path with one more site, in each way, ascending
unfoldable pub longer : Network → List ℕ → List (List ℕ)
longer N p = map (λ s. p ++ s ∷ []) (filter (goes_on N p) (range_with_len 0 N.n))

-- the paths of k sites, ascending
unfoldable pub paths : Network → ℕ → List (List ℕ)
paths N zero = [] ∷ []
paths N (suc k) = join_all (map (longer N) (paths N k))

-- the paths of k sites along which v expects a bit, ascending: those that end at a neighbour of v and lack v
unfoldable pub expected : Network → ℕ → ℕ → List (List ℕ)
expected N v zero = []
expected N v (suc k) = filter (λ p. N.joined (final p) v && not (has v p)) (paths N (suc k))

-- the paths of at most k sites along which v expects a bit: by length, then ascending
unfoldable pub expected_up_to : Network → ℕ → ℕ → List (List ℕ)
expected_up_to N v zero = []
expected_up_to N v (suc k) = expected_up_to N v k ++ expected N v (suc k)

-- a word for each path, with the bit heard along it
abbrev pub words_for : (List ℕ → Bool) → List (List ℕ) → List Word
words_for hear ps = map (λ p. record { path = p; bit = hear p }) ps
