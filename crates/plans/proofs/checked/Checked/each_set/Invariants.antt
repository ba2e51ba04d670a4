use Rattle.std.proofs.Common.{◌≡◌, ℕ, Bool}
use Rattle.sites.specs.declared.mask.SiteMask.{SiteMask}
use Rattle.plans.specs.Complete.{sets}
use Rattle.plans.proofs.Chains.{first_failing, failing_from}
use Rattle.plans.proofs.checked.Checked.each_set.Given as goal

abbrev pub invariant-loop-k : goal.invariant-loop-k
invariant-loop-k g l =
    goal.F-IsAlwaysCallable g l.passes
    × ((test : ℕ → Bool) → ((set : SiteMask) (r : Bool) → goal.F-post g l.passes set r → r ≡ test set.bits) → failing_from test (sets l.self.words.now) l.k ≡ first_failing test (sets l.self.words.now))
