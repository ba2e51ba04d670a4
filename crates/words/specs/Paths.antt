-- A path: at most six different sites, each below 6.
use Rattle.std.specs.Prelude.{ℕ, ◌-◌, Bool, not, ◌&&◌, List, length, ◌==◌, nat_eq, nat_le, nat_lt, slice_index}
use Rattle.sites.specs.Positions.{all_from}

-- the site at place i stands at no earlier place
abbrev pub fresh_at : List ℕ → ℕ → Bool
fresh_at sites i = all_from (λ j. not (slice_index sites j == slice_index sites i)) 0 i

abbrev pub site_ok : List ℕ → ℕ → Bool
site_ok sites i = nat_lt (slice_index sites i) 6 && fresh_at sites i

-- whether a list of sites is a path
abbrev pub path? : List ℕ → Bool
path? sites = nat_le (length sites) 6 && all_from (site_ok sites) 0 (length sites)

-- the six fields of a path are zero from place n on
abbrev pub zero_from : List ℕ → ℕ → Bool
zero_from fields n = all_from (λ i. nat_eq (slice_index fields i) 0) n (6 - n)
