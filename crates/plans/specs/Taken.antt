-- The route and the fan taken, and a sheet read as a network.
use Rattle.std.specs.Prelude.{ℕ, ◌^◌, Bool, cond, not, ◌&&◌, List, [], map, Some, None, Option, ◌==◌, nat_lt}
pub use Rattle.sites.specs.Suspects.{suspect?, set_at}
use Rattle.words.specs.Layout.{path_field}
use Rattle.sheets.specs.Parts.{word_at, site_count, rogue_limit, joined}
use Rattle.sheets.specs.Rows.{run_at}
use Rattle.theory.specs.Network.{Network}
use Rattle.plans.specs.Complete.{serves_route, route_place, fan_place}

-- the path of the word at a place, if there is a place
abbrev pub path_at : List ℕ → Option ℕ → List ℕ
path_at ws (Some i) = path_field (word_at ws i)
path_at ws None = []

-- the fan at a place, if there is a place
abbrev pub words_at : List ℕ → Option ℕ → List ℕ
words_at ws (Some i) = run_at ws i
words_at ws None = []

-- a word is a route from u to v that avoids F: the same as serves_route, kept shut for searches
unfoldable pub route_here : ℕ → ℕ → ℕ → ℕ → Bool
route_here F u v w = serves_route F u v w

module _ (ws : List ℕ) where
  -- two different sites below n
  abbrev pub two_sites? : ℕ → ℕ → Bool
  two_sites? u v = nat_lt u (site_count ws) && (nat_lt v (site_count ws) && not (u == v))

  -- an edge joins two sites below n
  abbrev pub are_joined : ℕ → ℕ → Bool
  are_joined a b = nat_lt a (site_count ws) && (nat_lt b (site_count ws) && joined ws a b)

  -- the place of the route taken from u to v where F is suspected: the first that avoids F;
  -- none where F is no suspect set or u and v are not two different sites
  abbrev pub route_taken : ℕ → ℕ → ℕ → Option ℕ
  route_taken F u v = cond (suspect? (site_count ws) (rogue_limit ws) F && two_sites? u v) (route_place ws F u v) None

  -- the place of the fan taken at v among A where F is suspected: the first that begins in A and avoids F;
  -- none where there is none, F is no suspect set, v is no site or A is no set of sites
  abbrev pub fan_taken : ℕ → ℕ → ℕ → Option ℕ
  fan_taken F v A = cond (suspect? (site_count ws) (rogue_limit ws) F && (nat_lt v (site_count ws) && nat_lt A (2 ^ site_count ws))) (fan_place ws F v A) None

  -- the path of the route taken, and the words of the fan taken; empty where there is none
  abbrev pub route_path : ℕ → ℕ → ℕ → List ℕ
  route_path F u v = path_at ws (route_taken F u v)

  abbrev pub fan_words : ℕ → ℕ → ℕ → List ℕ
  fan_words F v A = words_at ws (fan_taken F v A)

  -- the sheet as a network
  abbrev pub network_of : Network
  network_of = record {
    n = site_count ws;
    f = rogue_limit ws;
    joined = are_joined;
    route = route_path;
    fan = λ F v A. map path_field (fan_words F v A);
  }
