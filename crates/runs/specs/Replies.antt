-- What each call answers on a floor, and what it leaves. The tests stand in the order of the table of refusals; size is that of the air's lanes.
use Rattle.std.specs.Prelude.{ℕ, ◌+◌, ◌-◌, ◌^◌, Bool, true, false, cond, not, ◌&&◌, ◌||◌, List, [], ◌∷◌, map, length, Some, None, Ok, Err, Option, Result, ◌==◌, count_ones, nat_le, nat_lt, slice_set}
use Rattle.std.specs.List.{range_with_len}
use Rattle.sites.specs.declared.refusal.Refusal.{Refusal}
use Rattle.sites.specs.declared.refusal.Refusal.TheVariants.{Path as Unlawful, MaskSite, ManyRogues, NoSite, SoundSite, RogueSite, Over, Spoken, LaneFull, Unspoken, Undecided, Unheard}
use Rattle.sites.specs.Positions.{all_from}
use Rattle.sites.specs.Sets.{in_set}
use Rattle.theory.specs.Network.{Network}
use Rattle.theory.specs.Flooding.{Word}
use Rattle.theory.specs.Weighing.{weigh}
use Rattle.theory.specs.Runs.{suspect}
use Rattle.airs.specs.Lanes.{lane, count_of, silent, added, put_reply, kept}
use Rattle.notebooks.specs.Floods.{flood_in, heard_in}
use Rattle.notebooks.specs.Notebooks.{empty_book, note_round, owed_words, noted, told_by}
use Rattle.runs.specs.State.{SiteRecord, State, site, is_sound, opened, over, phase, round, rounds_noted}

-- ---- open: 11 where a mask names a site not below n, 12 for more than f rogues

abbrev pub open_reply : Network → ℕ → ℕ → Result (Unit {0}) Refusal
open_reply N rogues bits =
    cond (nat_lt rogues (2 ^ N.n) && nat_lt bits (2 ^ N.n))
    (cond (nat_le (count_ones rogues) N.f) (Ok tt) (Err ManyRogues))
    (Err MaskSite)

abbrev pub open_next : Network → ℕ → ℕ → State → State
open_next N rogues bits st = kept (open_reply N rogues bits) (opened N rogues bits) st

-- ---- what calls for one site begin with

-- 21 for a site not below n, 23 for a rogue; else what the call goes on to answer
abbrev pub for_sound : {X : Type 0} → State → ℕ → Result X Refusal → Result X Refusal
for_sound st s r = cond (nat_le st.net.n s) (Err NoSite) (cond (in_set st.rogues s) (Err RogueSite) r)

-- ---- transmit: 21, 22 for a sound site, 24 after the last phase, 25 for a full lane; else the lane's new length

abbrev pub transmit_reply : ℕ → State → ℕ → Result ℕ Refusal
transmit_reply size st s =
    cond (nat_le st.net.n s) (Err NoSite)
    (cond (not (in_set st.rogues s)) (Err SoundSite)
    (cond (over st) (Err Over)
    (put_reply size st.lanes s)))

-- words behind those in a site's lane
abbrev pub put : State → ℕ → List ℕ → State
put st s ws = record { net = st.net; rogues = st.rogues; records = st.records; lanes = added st.lanes s ws; turns = st.turns }

abbrev pub transmit_next : ℕ → State → ℕ → ℕ → State
transmit_next size st s w = kept (transmit_reply size st s) (put st s (w ∷ [])) st

-- ---- speak: 21, 23, 24, 26 where the site has spoken, 25 where its lane cannot take all that it owes; else how many words that are

abbrev pub speech : State → ℕ → List ℕ
speech st s = owed_words st.net s (round st) (site st s).holds (site st s).notebook

abbrev pub speak_reply : ℕ → State → ℕ → Result ℕ Refusal
speak_reply size st s =
    for_sound st s
    (cond (over st) (Err Over)
    (cond (site st s).spoken (Err Spoken)
    (cond (nat_lt size (count_of st.lanes s + length (speech st s))) (Err LaneFull)
    (Ok (length (speech st s))))))

abbrev pub as_spoken : SiteRecord → SiteRecord
as_spoken x = record { holds = x.holds; spoken = true; notebook = x.notebook }

abbrev pub spoken_by : State → ℕ → State
spoken_by st s = record {
  net = st.net;
  rogues = st.rogues;
  records = slice_set st.records s (as_spoken (site st s));
  lanes = added st.lanes s (speech st s);
  turns = st.turns;
}

abbrev pub speak_next : ℕ → State → ℕ → State
speak_next size st s = kept (speak_reply size st s) (spoken_by st s) st

-- ---- turn: 24, 27 where a sound site has not spoken; else the accepted turns with this one

abbrev pub all_spoke : State → Bool
all_spoke st = all_from (λ s. in_set st.rogues s || (site st s).spoken) 0 st.net.n

abbrev pub turn_reply : State → Result ℕ Refusal
turn_reply st = cond (over st) (Err Over) (cond (not (all_spoke st)) (Err Unspoken) (Ok (st.turns + 1)))

-- a site's notebook when it has heard the round; the first round of a phase begins with an empty one
unfoldable pub noting : State → ℕ → List ℕ
noting st v = note_round st.net v (round st) (heard_in (lane st.lanes)) (cond (round st == 1) empty_book (site st v).notebook)

-- the bit that a site then holds; when the last round of a phase was heard it weighs
unfoldable pub weighed : State → ℕ → Bool
weighed st v =
    cond (round st == st.net.n - 1)
    (weigh st.net (told_by st.net v (noting st v)) (suspect st.net (phase st)) (site st v).holds v)
    (site st v).holds

abbrev pub turned_site : State → ℕ → SiteRecord
turned_site st v = cond (is_sound st.net st.rogues v) (record { holds = weighed st v; spoken = false; notebook = noting st v }) (site st v)

-- all sound sites have heard, and the air is clear
abbrev pub turned : State → State
turned st = record {
  net = st.net;
  rogues = st.rogues;
  records = map (turned_site st) (range_with_len 0 6);
  lanes = silent;
  turns = st.turns + 1;
}

abbrev pub turn_next : State → State
turn_next st = kept (turn_reply st) (turned st) st

-- ---- held: 21, 23; decision: 21, 23, 28 before the last phase has ended; they change nothing

abbrev pub held_reply : State → ℕ → Result Bool Refusal
held_reply st s = for_sound st s (Ok (site st s).holds)

abbrev pub decision_reply : State → ℕ → Result Bool Refusal
decision_reply st s = for_sound st s (cond (not (over st)) (Err Undecided) (Ok (site st s).holds))

-- ---- recalled: 5 where the word is no lawful flood word with tail 0, 21, 23, 29 where its path is not expected or not yet heard; it changes nothing

abbrev pub or_unheard : Option Bool → Result Bool Refusal
or_unheard (Some b) = Ok b
or_unheard None = Err Unheard

abbrev pub recalled_for : State → ℕ → List ℕ → Result Bool Refusal
recalled_for st s p = for_sound st s (or_unheard (noted st.net s (rounds_noted st.net st.turns) (site st s).notebook p))

abbrev pub recalled_as : State → ℕ → Option Word → Result Bool Refusal
recalled_as st s None = Err Unlawful
recalled_as st s (Some w) = cond w.bit (Err Unlawful) (recalled_for st s w.path)

abbrev pub recalled_reply : State → ℕ → ℕ → Result Bool Refusal
recalled_reply st s w = recalled_as st s (flood_in w)
