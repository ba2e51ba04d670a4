-- A set summed up site by site.
use Rattle.std.proofs.Common.{◌≡◌, ℕ, suc, ◌+◌, ◌^◌, Bool, true, false, get_or, replicate, sym, ap, ◌∙◌, ⊎_elim, arith}
use lib.ListN.{length-replicate, get_or-replicate}
use Rattle.std.proofs.lemmas.List.{get_or_past}
use Rattle.std.proofs.lemmas.Bool.{cases_lt}
use Rattle.sites.specs.Sets.{mask_of}

pub mask_add : (n : ℕ) (g : ℕ → Bool) → g n ≡ true → mask_of n g + 2 ^ n ≡ mask_of (n + 1) g
unfolding mask_of
mask_add n g e = let s : n + 1 ≡ suc n = omega arith in sym (ap (λ m. mask_of m g) s ∙ rw e)

pub mask_skip : (n : ℕ) (g : ℕ → Bool) → g n ≡ false → mask_of n g ≡ mask_of (n + 1) g
unfolding mask_of
mask_skip n g e = let s : n + 1 ≡ suc n = omega arith in sym (ap (λ m. mask_of m g) s ∙ rw e (omega arith))

pub mask_none : (g : ℕ → Bool) → 0 ≡ mask_of 0 g
unfolding mask_of
mask_none g = omega arith

-- no masks but 0
pub zeros_at : (m j : ℕ) → ◌≡◌ {A = ℕ} (get_or (replicate m 0) j 0) 0
zeros_at m j = ⊎_elim (λ lt. get_or-replicate m j 0 0 lt) (λ le. get_or_past (replicate m 0) j 0 (omega (arith, length-replicate {A = ℕ} m 0))) (cases_lt j m)
