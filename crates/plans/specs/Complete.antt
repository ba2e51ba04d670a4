-- When a sheet is complete: what the last two rows of the check find.
use Rattle.std.specs.Prelude.{ℕ, ◌+◌, ◌^◌, Bool, not, ◌&&◌, ◌||◌, List, length, is_some, Option, Result, ◌==◌, nat_le, slice_index}
use Rattle.std.specs.Option.{option_map}
use Rattle.sites.specs.declared.refusal.Refusal.TheVariants.{NoRoute, NoFan}
use Rattle.sites.specs.Positions.{first_from, all_from}
use Rattle.sites.specs.Sets.{in_set}
use Rattle.sites.specs.Keepers.{keepers}
use Rattle.sites.specs.Suspects.{suspects}
use Rattle.words.specs.Layout.{kind_field}
use Rattle.sheets.specs.declared.refusal.SheetRefusal.{SheetRefusal}
use Rattle.sheets.specs.Parts.{word_at, site_count, rogue_limit, later, source, end, avoids}
use Rattle.sheets.specs.Rows.{fan_starts, run_at}
use Rattle.sheets.specs.Refusals.{told, and_then, well_formed}

-- a route from u to v that avoids F
abbrev pub serves_route : ℕ → ℕ → ℕ → ℕ → Bool
serves_route F u v w = kind_field w == 10 && (source w == u && (end w == v && avoids F w))

-- a run of fan paths that end at v, begin in A and avoid F
abbrev pub serves_fan : ℕ → ℕ → ℕ → List ℕ → Bool
serves_fan F v A run = end (slice_index run 0) == v && all_from (λ k. in_set A (source (slice_index run k)) && avoids F (slice_index run k)) 0 (length run)

module _ (ws : List ℕ) where
  -- the place of the first route from u to v that avoids F
  abbrev pub route_place : ℕ → ℕ → ℕ → Option ℕ
  route_place F u v = first_from (λ i. serves_route F u v (word_at ws i)) 1 (later ws)

  -- the place of the first fan at v that begins in A and avoids F
  abbrev pub fan_here : ℕ → ℕ → ℕ → ℕ → Bool
  fan_here F v A i = fan_starts ws i && (nat_le (i + (rogue_limit ws + 1)) (length ws) && serves_fan F v A (run_at ws i))

  abbrev pub fan_place : ℕ → ℕ → ℕ → Option ℕ
  fan_place F v A = first_from (fan_here F v A) 1 (later ws)

  -- for F, there is a route between any two different sites
  abbrev pub routed : ℕ → Bool
  routed F = all_from (λ u. all_from (λ v. (u == v) || is_some (route_place F u v)) 0 (site_count ws)) 0 (site_count ws)

  -- the set A of a weighing, by the suspect set and the sites whose bit is 0
  abbrev pub keeping : ℕ → ℕ → ℕ
  keeping F Z = keepers (site_count ws) (rogue_limit ws) F Z

  -- for F, each site has a fan for each Z that puts it into B
  abbrev pub fanned : ℕ → Bool
  fanned F =
      all_from (λ v. all_from (λ Z. in_set (keeping F Z) v || is_some (fan_place F v (keeping F Z))) 0 (2 ^ site_count ws)) 0 (site_count ws)

  -- the first suspect set, in their order, that fails a test
  abbrev pub sets : List ℕ
  sets = suspects (site_count ws) (rogue_limit ws)

  abbrev pub first_set : (ℕ → Bool) → Option ℕ
  first_set passes = option_map (λ k. slice_index sets k) (first_from (λ k. not (passes (slice_index sets k))) 0 (length sets))

  -- 7: each suspect set has its routes
  abbrev pub route_fault : Option ℕ
  route_fault = first_set routed

  -- 8: each suspect set has its fans
  abbrev pub missing_fan : Option ℕ
  missing_fan = first_set fanned

  -- all eight rows: what a plan is loaded by
  abbrev pub judged : Result (Unit {0}) SheetRefusal
  judged = and_then (well_formed ws) (and_then (told NoRoute route_fault) (told NoFan missing_fan))
