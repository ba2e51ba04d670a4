-- Walking: how paths grow site by site, with their words.
use Rattle.std.specs.Prelude.{ℕ, zero, suc, ◌+◌, ◌-◌, ◌*◌, ◌/◌, ◌^◌, Bool, cond, ◌&&◌, List, [], ◌∷◌, slice_index}
use Rattle.sites.specs.Sets.{in_set, others}
use Rattle.tables.specs.Joins.{join_from}
use Rattle.tables.specs.declared.expected_path.ExpectedPath.{ExpectedPath}
use Rattle.tables.specs.declared.step.Step.{Step}

-- whether a path may go on to a site
abbrev pub can_go : Step → ℕ → Bool
can_go st s = in_set st.near.bits s && in_set st.free.bits s

-- the path with one more site
abbrev pub gone_on : List ℕ → Step → ℕ → Step
gone_on near st s = record {
  path = record { word = st.path.word + 2 ^ 25 + s * st.unit; front = st.path.word; last = s };
  near = record { bits = slice_index near s };
  free = record { bits = st.free.bits - 2 ^ s };
  unit = st.unit / 8;
}

-- the paths to a neighbour of v that go on from a path by k sites
abbrev pub walks : List ℕ → ℕ → Step → ℕ → List ExpectedPath
walks near v st zero = cond (in_set st.near.bits v) (st.path ∷ []) []
walks near v st (suc k) = join_from (can_go st) (λ s. walks near v (gone_on near st s) k) 0 6

-- the path of no site: it may go on to any site below n but v
abbrev pub root : ℕ → ℕ → Step
root n v = record {
  path = record { word = 2 ^ 28; front = 2 ^ 28; last = 0 };
  near = record { bits = 63 };
  free = record { bits = others n (2 ^ v) };
  unit = 2 ^ 22;
}
