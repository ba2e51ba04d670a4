-- Steps of a loop over positions, and what the tests tell of each position.
use Rattle.std.proofs.Common.{◌≡◌, ℕ, zero, suc, ◌+◌, ◌-◌, ◌<◌, ◌≤◌, Bool, true, false, is_some, Some, None, Option, IsTrue, MatchOption, ◌↔◌, ap, sym, refl, ◌∙◌, subst, ⊎_elim, arith}
use Rattle.std.proofs.lemmas.Bool.{cases_Bool, cases_eq, cond-true, cond-false, both_ways}
use Rattle.sites.specs.Positions.{first_from, all_from, any_from}

-- ---- one step of a search from i up to n

split : (n i : ℕ) → i < n → n - i ≡ suc (n - (i + 1))
split n i h = omega arith

pub first_hit : (p : ℕ → Bool) (i n : ℕ) → i < n → p i ≡ true → first_from p i (n - i) ≡ Some i
first_hit p i n h e = rw (split n i h, e)

pub first_miss : (p : ℕ → Bool) (i n : ℕ) → i < n → p i ≡ false → first_from p i (n - i) ≡ first_from p (i + 1) (n - (i + 1))
first_miss p i n h e = rw (split n i h, e)

pub first_end : (p : ℕ → Bool) (i n : ℕ) → n ≤ i → first_from p i (n - i) ≡ None
first_end p i n h = let z : n - i ≡ 0 = omega arith in rw z

pub all_fail : (p : ℕ → Bool) (i n : ℕ) → i < n → p i ≡ false → all_from p i (n - i) ≡ false
all_fail p i n h e = rw (split n i h, e)

pub all_pass : (p : ℕ → Bool) (i n : ℕ) → i < n → p i ≡ true → all_from p i (n - i) ≡ all_from p (i + 1) (n - (i + 1))
all_pass p i n h e = rw (split n i h, e)

pub all_end : (p : ℕ → Bool) (i n : ℕ) → n ≤ i → all_from p i (n - i) ≡ true
all_end p i n h = let z : n - i ≡ 0 = omega arith in rw z

pub any_hit : (p : ℕ → Bool) (i n : ℕ) → i < n → p i ≡ true → any_from p i (n - i) ≡ true
any_hit p i n h e = rw (split n i h, e)

pub any_miss : (p : ℕ → Bool) (i n : ℕ) → i < n → p i ≡ false → any_from p i (n - i) ≡ any_from p (i + 1) (n - (i + 1))
any_miss p i n h e = rw (split n i h, e)

pub any_end : (p : ℕ → Bool) (i n : ℕ) → n ≤ i → any_from p i (n - i) ≡ false
any_end p i n h = let z : n - i ≡ 0 = omega arith in rw z

-- ---- what each answer tells of the positions

pub all_at : (p : ℕ → Bool) (i n : ℕ) → all_from p i n ≡ true → (k : ℕ) → i ≤ k → k < i + n → p k ≡ true
all_at p i zero e k lo hi = absurd (omega arith)
all_at p i (suc n) e k lo hi =
    ⊎_elim
    (λ t. ⊎_elim
    (λ s. subst (λ (x : ℕ). p x ≡ true) s t)
    (λ s. all_at p (i + 1) n (sym (cond-true (p i) (all_from p (i + 1) n) false t) ∙ e) k (omega arith) (omega arith))
    (cases_eq i k))
    (λ f. absurd (both_ways false refl (sym (cond-false (p i) (all_from p (i + 1) n) false f) ∙ e)))
    (cases_Bool (p i))

pub all_by : (p : ℕ → Bool) (i n : ℕ) → ((k : ℕ) → i ≤ k → k < i + n → p k ≡ true) → all_from p i n ≡ true
all_by p i zero h = refl
all_by p i (suc n) h =
    cond-true (p i) (all_from p (i + 1) n) false (h i (omega arith) (omega arith)) ∙ all_by p (i + 1) n (λ k lo hi. h k (omega arith) (omega arith))

pub none_at : (p : ℕ → Bool) (i n : ℕ) → first_from p i n ≡ None → (k : ℕ) → i ≤ k → k < i + n → p k ≡ false
none_at p i zero e k lo hi = absurd (omega arith)
none_at p i (suc n) e k lo hi =
    ⊎_elim
    (λ t. absurd (let z : ◌≡◌ {A = ℕ} 0 1 = cc (e, cond-true (p i) (Some i) (first_from p (i + 1) n) t) in omega arith))
    (λ f. ⊎_elim
    (λ s. subst (λ (x : ℕ). p x ≡ false) s f)
    (λ s. none_at p (i + 1) n (sym (cond-false (p i) (Some i) (first_from p (i + 1) n) f) ∙ e) k (omega arith) (omega arith))
    (cases_eq i k))
    (cases_Bool (p i))

-- the first position passes, lies in the range, and none before it passes
pub first_is : (p : ℕ → Bool) (i n m : ℕ) → first_from p i n ≡ Some m → (p m ≡ true) × (i ≤ m) × (m < i + n) × ((k : ℕ) → i ≤ k → k < m → p k ≡ false)
first_is p i zero m e = absurd (let z : ◌≡◌ {A = ℕ} 0 1 = cc in omega arith)
first_is p i (suc n) m e =
    ⊎_elim
    (λ t. let s : i ≡ m = cc (e, cond-true (p i) (Some i) (first_from p (i + 1) n) t) in
    (subst (λ (x : ℕ). p x ≡ true) s t, omega arith, omega arith, λ k lo hi. absurd (omega arith)))
    (λ f. let q = first_is p (i + 1) n m (sym (cond-false (p i) (Some i) (first_from p (i + 1) n) f) ∙ e) in
    (q.0, omega (arith, q.1), omega (arith, q.2), λ k lo hi. ⊎_elim (λ s. subst (λ (x : ℕ). p x ≡ false) s f) (λ s. q.3 k (omega arith) hi) (cases_eq i k)))
    (cases_Bool (p i))

-- where there is a first position, some position passes
pub some_at : (p : ℕ → Bool) (i n : ℕ) → is_some (first_from p i n) ≡ true → (k : ℕ) × (i ≤ k) × (k < i + n) × (p k ≡ true)
some_at p i zero e = absurd (both_ways false refl e)
some_at p i (suc n) e =
    ⊎_elim
    (λ t. (i, omega arith, omega arith, t))
    (λ f. let q = some_at p (i + 1) n (subst (λ (o : Option ℕ). is_some o ≡ true) (cond-false (p i) (Some i) (first_from p (i + 1) n) f) e) in
    (q.0, omega arith, omega arith, q.3))
    (cases_Bool (p i))

pub no_first : (p : ℕ → Bool) (i n : ℕ) → ((k : ℕ) → i ≤ k → k < i + n → p k ≡ false) → first_from p i n ≡ None
no_first p i zero h = refl
no_first p i (suc n) h =
    cond-false (p i) (Some i) (first_from p (i + 1) n) (h i (omega arith) (omega arith)) ∙ no_first p (i + 1) n (λ k lo hi. h k (omega arith) (omega arith))

pub this_first : (p : ℕ → Bool) (i n m : ℕ) → i ≤ m → m < i + n → p m ≡ true → ((k : ℕ) → i ≤ k → k < m → p k ≡ false) → first_from p i n ≡ Some m
this_first p i zero m lo hi e h = absurd (omega arith)
this_first p i (suc n) m lo hi e h =
    ⊎_elim
    (λ s. cond-true (p i) (Some i) (first_from p (i + 1) n) (subst (λ (x : ℕ). p x ≡ true) (sym s) e) ∙ ap (λ (x : ℕ). Some x) s)
    (λ s. cond-false (p i) (Some i) (first_from p (i + 1) n) (h i (omega arith) (omega arith)) ∙ this_first p (i + 1) n m (omega arith) (omega arith) e (λ k l r. h k (omega arith) r))
    (cases_eq i m)

-- ---- what a chain of an iterator's methods tells, as a test over positions

-- a test that is true just where each position passes
pub all_is : (p : ℕ → Bool) (i n : ℕ) (r : Bool) → (IsTrue r ↔ ((k : ℕ) → i ≤ k → k < i + n → IsTrue (p k))) → r ≡ all_from p i n
all_is p i n true h = sym (all_by p i n (λ k lo hi. h.0 refl k lo hi))
all_is p i n false h = ⊎_elim
    (λ t. absurd (both_ways false refl (h.1 (λ k lo hi. all_at p i n t k lo hi))))
    (λ f. sym f)
    (cases_Bool (all_from p i n))

-- the same from the first position on
pub each_is : (p : ℕ → Bool) (n : ℕ) (r : Bool) → (IsTrue r ↔ ((k : ℕ) → k < n → IsTrue (p k))) → r ≡ all_from p 0 n
each_is p n r h = all_is p 0 n r (λ t k lo hi. h.0 t k (omega arith), λ f. h.1 (λ k hi. f k (omega arith) (omega arith)))

-- a search that gives the first position that passes
pub first_found : (p : ℕ → Bool) (i n : ℕ) (r : Option ℕ) → MatchOption r ((k : ℕ) → i ≤ k → k < i + n → p k ≡ false) (λ m. (i ≤ m) × (m < i + n) × (p m ≡ true) × ((k : ℕ) → i ≤ k → k < m → p k ≡ false)) → r ≡ first_from p i n
first_found p i n None h = sym (no_first p i n h)
first_found p i n (Some m) h = sym (this_first p i n m h.0 h.1 h.2 h.3)
