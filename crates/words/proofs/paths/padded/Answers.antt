use Rattle.std.proofs.Common.{◌≡◌, ℕ, zero, suc, ◌+◌, ◌-◌, [], ◌∷◌, length, get_or, drop, refl, ◌∙◌, arith}
use Rattle.std.proofs.lemmas.List.{get_or-append_right, get_or-drop}
use Rattle.std.proofs.lemmas.Bool.{eq-eqb}
use Rattle.sites.proofs.Positions.{all_by}
use Rattle.words.proofs.paths.padded.Goals as goal

zeros_at : (i : ℕ) → get_or {A = ℕ} (0 ∷ 0 ∷ 0 ∷ 0 ∷ 0 ∷ 0 ∷ []) i 0 ≡ 0
zeros_at zero = refl
zeros_at (suc zero) = refl
zeros_at (suc (suc zero)) = refl
zeros_at (suc (suc (suc zero))) = refl
zeros_at (suc (suc (suc (suc zero)))) = refl
zeros_at (suc (suc (suc (suc (suc zero))))) = refl
zeros_at (suc (suc (suc (suc (suc (suc i)))))) = refl

past_zero : (n j : ℕ) → get_or {A = ℕ} (drop n (0 ∷ 0 ∷ 0 ∷ 0 ∷ 0 ∷ 0 ∷ [])) j 0 ≡ 0
past_zero n j = get_or-drop n (0 ∷ 0 ∷ 0 ∷ 0 ∷ 0 ∷ 0 ∷ []) j 0 ∙ zeros_at (n + j)

pub returns-clause-zeros : goal.returns-clause-zeros
returns-clause-zeros c = all_by _ (length c.args.sites.now) (6 - length c.args.sites.now) (λ k lo hi. eq-eqb _ _
    (get_or-append_right c.copy_from_slice.new.self _ (length c.copy_from_slice.new.self) k 0 refl (omega (arith, c.copy_from_slice.ensures.len))
    ∙ past_zero (length c.args.sites.now - 0) (k - length c.copy_from_slice.new.self)))
