-- What an accepted call shows of the state that it was made in.
use Rattle.std.proofs.Common.{◌≡◌, ℕ, ◌+◌, ◌<◌, Bool, true, false, cond, not, ◌||◌, leb, length, Ok, Err, Result, sym, refl, ◌∙◌, ⊎_elim, arith}
use Rattle.std.proofs.lemmas.Bool.{leb-false, lt-leb, not-false, both_ways, cases_Bool, or_cases, or_left, or_right, cond-false}
use Rattle.sites.specs.declared.refusal.Refusal.{Refusal}
use Rattle.sites.specs.declared.refusal.Refusal.TheVariants.{NoSite, RogueSite}
use Rattle.sites.specs.Sets.{in_set}
use Rattle.sites.proofs.Positions.{all_at, all_by}
use Rattle.theory.specs.Runs.{Sound}
use Rattle.airs.specs.Lanes.{kept}
use Rattle.runs.specs.State.{State, site, last_turn, over}
use Rattle.runs.specs.Replies.{for_sound, transmit_reply, speech, speak_reply, all_spoke, turn_reply}

-- ---- tests

-- what got past a test that refuses
pub not_refused : {X : Type 0} (b : Bool) (x : Refusal) (r : Result X Refusal) (k : X) → cond b (Err x) r ≡ Ok k → (b ≡ false) × (r ≡ Ok k)
not_refused true x r k e = absurd (let z : ◌≡◌ {A = ℕ} 0 1 = cc in omega arith)
not_refused false x r k e = (refl, e)

-- an accepted call changes the state, a refused one does not
pub kept_both : {X S : Type 0} (P : S → Result X Refusal → Type 0) (r : Result X Refusal) (a b : S) → ((k : X) → r ≡ Ok k → P a (Ok k)) → ((x : Refusal) → r ≡ Err x → P b (Err x)) → P (kept r a b) r
kept_both P (Ok k) a b taken refused = taken k refl
kept_both P (Err x) a b taken refused = refused x refl

-- ---- calls

pub for_sound_ok : {X : Type 0} (st : State) (s : ℕ) (r : Result X Refusal) (k : X) → for_sound st s r ≡ Ok k → Sound st.net st.rogues s × (r ≡ Ok k)
for_sound_ok st s r k e =
    let a = not_refused (leb st.net.n s) _ _ k e in
    let b = not_refused (in_set st.rogues s) _ _ k a.1 in
    ((leb-false st.net.n s a.0, b.0), b.1)

-- a sound site passes the first tests of a call
pub for_sound_is : {X : Type 0} (st : State) (s : ℕ) (r : Result X Refusal) → Sound st.net st.rogues s → for_sound st s r ≡ r
for_sound_is st s r h = cond-false (leb st.net.n s) (Err NoSite) _ (lt-leb st.net.n s h.0) ∙ cond-false (in_set st.rogues s) (Err RogueSite) r h.1

pub transmit_ok : (size : ℕ) (st : State) (s k : ℕ) → transmit_reply size st s ≡ Ok k → (s < st.net.n) × (in_set st.rogues s ≡ true)
transmit_ok size st s k e =
    let a = not_refused (leb st.net.n s) _ _ k e in
    let b = not_refused (not (in_set st.rogues s)) _ _ k a.1 in
    (leb-false st.net.n s a.0, not-false (in_set st.rogues s) b.0)

pub speak_ok : (size : ℕ) (st : State) (s k : ℕ) → speak_reply size st s ≡ Ok k → Sound st.net st.rogues s × ((site st s).spoken ≡ false) × (k ≡ length (speech st s))
speak_ok size st s k e =
    let a = for_sound_ok st s _ k e in
    let b = not_refused (over st) _ _ k a.1 in
    let c = not_refused (site st s).spoken _ _ k b.1 in
    let d = not_refused _ _ (Ok (length (speech st s))) k c.1 in
    let f : length (speech st s) ≡ k = let g = d.1 in cc in
    (a.0, c.0, sym f)

pub turn_ok : (st : State) (k : ℕ) → turn_reply st ≡ Ok k → (st.turns < last_turn st.net) × (all_spoke st ≡ true) × (k ≡ st.turns + 1)
turn_ok st k e =
    let a = not_refused (over st) _ _ k e in
    let b = not_refused (not (all_spoke st)) _ (Ok (st.turns + 1)) k a.1 in
    let c : st.turns + 1 ≡ k = let h = b.1 in cc in
    (leb-false (last_turn st.net) st.turns a.0, not-false (all_spoke st) b.0, sym c)

-- ---- all sound sites have spoken

pub all_spoke_at : (st : State) (s : ℕ) → all_spoke st ≡ true → Sound st.net st.rogues s → (site st s).spoken ≡ true
all_spoke_at st s a h =
    ⊎_elim
    (λ x. absurd (both_ways (in_set st.rogues s) h.1 x))
    (λ x. x)
    (or_cases (in_set st.rogues s) (site st s).spoken (all_at (λ s. in_set st.rogues s || (site st s).spoken) 0 st.net.n a s (omega arith) (omega (arith, h.0))))

pub all_spoke_from : (st : State) → ((s : ℕ) → Sound st.net st.rogues s → (site st s).spoken ≡ true) → all_spoke st ≡ true
all_spoke_from st h = all_by (λ s. in_set st.rogues s || (site st s).spoken) 0 st.net.n (λ s a b.
    ⊎_elim (λ e. or_left (in_set st.rogues s) (site st s).spoken e) (λ e. or_right (in_set st.rogues s) (site st s).spoken (h s (omega arith, e))) (cases_Bool (in_set st.rogues s)))
