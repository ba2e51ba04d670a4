-- Smaller laws of calls.
use Rattle.std.proofs.Common.{◌≡◌, ℕ, ◌^◌, Bool, true, false, cond, ◌&&◌, ltb, leb, Ok, Err, Result, refl, ap, arith}
use lib.Count.{ones}
use Rattle.std.proofs.lemmas.Bool.{ltb-true, leb-true, and_parts}
use Rattle.sites.specs.declared.refusal.Refusal.{Refusal}
use Rattle.airs.specs.Lanes.{Lanes, kept}
use Rattle.runs.specs.declared.calls.Call.TheVariants.{Transmit, Speak, Turn, Held, Decision, Recalled}
use Rattle.runs.specs.State.{State, opened}
use Rattle.runs.specs.Replies.{transmit_reply, speak_reply, turn_reply}
use Rattle.runs.specs.Runs.{counted}
use Rattle.runs.specs.Laws.{RefusedLaw, OpenLaw, OneWayLaw}
use Rattle.runs.proofs.Runs.{runs_so, ran_so}

kept_refused : (r : Result ℕ Refusal) (changed st : State) (e : Refusal) → counted r ≡ Err e → kept r changed st ≡ st
kept_refused (Ok k) changed st e h = absurd (let z : ◌≡◌ {A = ℕ} 0 1 = cc in omega arith)
kept_refused (Err x) changed st e h = refl

-- a call that changes only the lanes, and they only if it is accepted
pub kept_lanes : (r : Result ℕ Refusal) (st : State) (ls : Lanes) →
    kept r (record { net = st.net; rogues = st.rogues; records = st.records; lanes = ls; turns = st.turns }) st
    ≡ record { net = st.net; rogues = st.rogues; records = st.records; lanes = kept r ls st.lanes; turns = st.turns }
kept_lanes (Ok k) st ls = refl
kept_lanes (Err x) st ls = refl

pub refused_law : RefusedLaw
refused_law size st (Transmit s w) e h = kept_refused (transmit_reply size st s) _ st e h
refused_law size st (Speak s) e h = kept_refused (speak_reply size st s) _ st e h
refused_law size st Turn e h = kept_refused (turn_reply st) _ st e h
refused_law size st (Held s) e h = refl
refused_law size st (Decision s) e h = refl
refused_law size st (Recalled s w) e h = refl

-- what got past a test that lets through
let_through : {X : Type 0} (b : Bool) (x : Refusal) (r : Result X Refusal) (k : X) → cond b r (Err x) ≡ Ok k → (b ≡ true) × (r ≡ Ok k)
let_through true x r k e = (refl, e)
let_through false x r k e = absurd (let z : ◌≡◌ {A = ℕ} 0 1 = cc in omega arith)

pub open_law : OpenLaw
open_law N rogues bits st = record {
  accepted = λ h.
      let a = let_through (ltb rogues (2 ^ N.n) && ltb bits (2 ^ N.n)) _ _ tt h in
      let b = let_through (leb (ones rogues) N.f) _ _ tt a.1 in
      let c = and_parts (ltb rogues (2 ^ N.n)) (ltb bits (2 ^ N.n)) a.0 in
      (record { below = ltb-true rogues (2 ^ N.n) c.0; few = leb-true (ones rogues) N.f b.0 }, ap (λ (r : Result (Unit {0}) Refusal). kept r (opened N rogues bits) st) h);
  refused = λ e h. ap (λ (r : Result (Unit {0}) Refusal). kept r (opened N rogues bits) st) h;
}

pub one_way_law : OneWayLaw
one_way_law size st = record { run = λ cs. runs_so size cs st; only = λ es last r. ran_so r }
