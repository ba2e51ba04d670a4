-- The counts that a floor answers fit a word.
use Rattle.std.proofs.Common.{◌≡◌, ℕ, ◌+◌, ◌^◌, ◌<◌, Bool, true, false, cond, not, ltb, leb, length, Ok, Err, Result, refl, arith}
use Rattle.std.proofs.lemmas.Bool.{leb-false, ltb-false}
use Rattle.sites.specs.declared.refusal.Refusal.{Refusal}
use Rattle.sites.specs.declared.refusal.Refusal.TheVariants.{NoSite, SoundSite, RogueSite, LaneFull, Over, Spoken, Unspoken}
use Rattle.runs.specs.declared.calls.Call.{Call}
use Rattle.runs.specs.declared.calls.Call.TheVariants.{Transmit, Speak, Turn, Held, Decision, Recalled}
use Rattle.runs.specs.declared.calls.Value.TheVariants.{Count}
use Rattle.sites.specs.Sets.{in_set}
use Rattle.airs.specs.Lanes.{Lanes, count_of, put_reply}
use Rattle.runs.specs.State.{State, site, over}
use Rattle.runs.specs.Replies.{speech, all_spoke, transmit_reply, speak_reply, turn_reply, held_reply, decision_reply, recalled_reply}
use Rattle.runs.specs.Runs.{counted, told, reply}

abbrev Small : Result ℕ Refusal → Type 0
Small (Ok k) = k < 2 ^ 32
Small (Err e) = Unit {0}

refused_or : (t : Bool) (e : Refusal) (r : Result ℕ Refusal) → (t ≡ false → Small r) → Small (cond t (Err e) r)
refused_or true e r h = tt
refused_or false e r h = h refl

counted_small : (r : Result ℕ Refusal) (k : ℕ) → Small r → counted r ≡ Ok (Count k) → k < 2 ^ 32
counted_small (Ok j) k s e = let z : j ≡ k = cc in omega arith
counted_small (Err x) k s e = absurd (let z : ◌≡◌ {A = ℕ} 0 1 = cc in omega arith)

told_never : (r : Result Bool Refusal) (k : ℕ) → told r ≡ Ok (Count k) → ⊥
told_never (Ok b) k e = let z : ◌≡◌ {A = ℕ} 0 1 = cc in omega arith
told_never (Err x) k e = let z : ◌≡◌ {A = ℕ} 0 1 = cc in omega arith

put_small : (ls : Lanes) (s : ℕ) → Small (put_reply 120 ls s)
put_small ls s =
    refused_or (leb 6 s) NoSite (cond (leb 120 (count_of ls s)) (Err LaneFull) (Ok (count_of ls s + 1)))
    (λ _. refused_or (leb 120 (count_of ls s)) LaneFull (Ok (count_of ls s + 1)) (λ full. let h = leb-false 120 (count_of ls s) full in omega arith))

speech_small : (st : State) (s : ℕ) → Small (cond (ltb 120 (count_of st.lanes s + length (speech st s))) (Err LaneFull) (Ok (length (speech st s))))
speech_small st s =
    refused_or (ltb 120 (count_of st.lanes s + length (speech st s))) LaneFull (Ok (length (speech st s)))
    (λ full. let h = ltb-false 120 (count_of st.lanes s + length (speech st s)) full in omega arith)

turn_small : (st : State) → (over st ≡ false → st.turns < 200) → Small (turn_reply st)
turn_small st few =
    refused_or (over st) Over (cond (not (all_spoke st)) (Err Unspoken) (Ok (st.turns + 1)))
    (λ on. let h = few on in refused_or (not (all_spoke st)) Unspoken (Ok (st.turns + 1)) (λ _. omega arith))

transmit_small : (st : State) (s : ℕ) → Small (transmit_reply 120 st s)
transmit_small st s =
    let last : Result ℕ Refusal = cond (over st) (Err Over) (put_reply 120 st.lanes s) in
    refused_or (leb st.net.n s) NoSite (cond (not (in_set st.rogues s)) (Err SoundSite) last)
    (λ _. refused_or (not (in_set st.rogues s)) SoundSite last (λ _. refused_or (over st) Over (put_reply 120 st.lanes s) (λ _. put_small st.lanes s)))

speak_small : (st : State) (s : ℕ) → Small (speak_reply 120 st s)
speak_small st s =
    let last : Result ℕ Refusal = cond (ltb 120 (count_of st.lanes s + length (speech st s))) (Err LaneFull) (Ok (length (speech st s))) in
    let then : Result ℕ Refusal = cond (site st s).spoken (Err Spoken) last in
    refused_or (leb st.net.n s) NoSite (cond (in_set st.rogues s) (Err RogueSite) (cond (over st) (Err Over) then))
    (λ _. refused_or (in_set st.rogues s) RogueSite (cond (over st) (Err Over) then)
    (λ _. refused_or (over st) Over then (λ _. refused_or (site st s).spoken Spoken last (λ _. speech_small st s))))

pub count_fits : (st : State) → (over st ≡ false → st.turns < 200) → (c : Call) (k : ℕ) → reply 120 st c ≡ Ok (Count k) → k < 2 ^ 32
count_fits st few (Transmit s w) k e = counted_small (transmit_reply 120 st s) k (transmit_small st s) e
count_fits st few (Speak s) k e = counted_small (speak_reply 120 st s) k (speak_small st s) e
count_fits st few Turn k e = counted_small (turn_reply st) k (turn_small st few) e
count_fits st few (Held s) k e = absurd (told_never (held_reply st s) k e)
count_fits st few (Decision s) k e = absurd (told_never (decision_reply st s) k e)
count_fits st few (Recalled s w) k e = absurd (told_never (recalled_reply st s w) k e)
