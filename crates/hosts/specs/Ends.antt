-- A single end as a host keeps it: seven words, the tag first.
use Rattle.std.specs.Prelude.{ℕ, zero, suc, ◌+◌, ◌*◌, ◌/◌, ◌^◌, ◌<◌, Bool, cond, ◌&&◌, ◌||◌, List, [], ◌∷◌, ◌++◌, length, take, drop, Ok, Err, Result, ◌==◌, nat_lt, slice_index}
use Rattle.sites.specs.declared.refusal.Refusal.{Refusal}
use Rattle.sites.specs.declared.refusal.Refusal.TheVariants.{OtherPlan}
use Rattle.theory.specs.Network.{Network}
use Rattle.airs.specs.Lanes.{Lanes, silent, put_next}
use Rattle.single_end.specs.Ends.{InRound, InWeighing, Afterwards, Standing, next_round, all_taken, in_round, done, begin_reply, same_size, speak_reply, owed_by, taken, book_taken, weighed}
use Rattle.single_end.specs.declared.numbers.Numbers.{Numbers}
use Rattle.hosts.specs.declared.end_words.EndWords.{EndWords}
use Rattle.hosts.specs.declared.end_words.Tag.{Tag}
use Rattle.hosts.specs.declared.end_words.Tag.TheVariants as tag
use Rattle.hosts.specs.declared.refused.HostRefusal.{HostRefusal}
use Rattle.hosts.specs.declared.refused.HostRefusal.TheVariants.{TooShort, NoState, Engine}
use Rattle.hosts.specs.Answered.{then_by, site_of}
use Rattle.hosts.specs.Sheets.{checked, sheet_network}

-- ---- the seven words

-- the first seven of some words
abbrev pub end_at : List ℕ → EndWords
end_at ws = record { tag = slice_index ws 0; site = slice_index ws 1; bit = slice_index ws 2; phase = slice_index ws 3; round = slice_index ws 4; n = slice_index ws 5; f = slice_index ws 6 }

-- some words with these as their first seven
abbrev pub kept_over : EndWords → List ℕ → List ℕ
kept_over w old = (w.tag ∷ w.site ∷ w.bit ∷ w.phase ∷ w.round ∷ w.n ∷ w.f ∷ []) ++ drop 7 old

-- a bit as a word
abbrev pub bit_word : Bool → ℕ
bit_word b = cond b 1 0

-- the words of each state: tag 1 for a round, 2 for weighing, 3 for done; zeros for what a state has none of
abbrev pub round_kept : InRound → EndWords
round_kept e = record { tag = 1; site = e.site; bit = bit_word e.holds; phase = e.phase; round = e.round; n = e.n; f = e.f }

abbrev pub weighing_kept : InWeighing → EndWords
weighing_kept w = record { tag = 2; site = w.site; bit = bit_word w.holds; phase = w.phase; round = 0; n = w.n; f = w.f }

abbrev pub done_kept : Bool → EndWords
done_kept b = record { tag = 3; site = 0; bit = bit_word b; phase = 0; round = 0; n = 0; f = 0 }

-- the word of each tag, and the words of a state that has some numbers
abbrev pub tag_word : Tag → ℕ
tag_word tag.Round = 1
tag_word tag.Weighing = 2
tag_word tag.Done = 3

abbrev pub words_kept : Tag → Numbers → EndWords
words_kept t x = record { tag = tag_word t; site = x.site; bit = bit_word x.bit; phase = x.phase; round = x.round; n = x.n; f = x.f }

abbrev pub after_taking : Afterwards → EndWords
after_taking (next_round e) = round_kept e
after_taking (all_taken w) = weighing_kept w

abbrev pub after_weighing : Standing → EndWords
after_weighing (in_round e) = round_kept e
after_weighing (done b) = done_kept b

-- ---- the state that the words tell

-- whether they are numbers of an end: a bit, a site below n, and n and f of 8 bits
abbrev pub stands : EndWords → Bool
stands w = nat_lt w.bit 2 && (nat_lt w.site w.n && (nat_lt w.n 256 && nat_lt w.f 256))

-- the round that they tell; 102 where they tell none
abbrev pub round_in : EndWords → Result InRound HostRefusal
round_in w =
    cond (w.tag == 1 && stands w)
    (Ok (record { site = w.site; holds = (w.bit == 1); phase = w.phase; round = w.round; n = w.n; f = w.f }))
    (Err NoState)

-- the weighing that they tell, whatever the word for the round; 102 where they tell none
abbrev pub weighing_in : EndWords → Result InWeighing HostRefusal
weighing_in w =
    cond (w.tag == 2 && stands w)
    (Ok (record { site = w.site; holds = (w.bit == 1); phase = w.phase; n = w.n; f = w.f }))
    (Err NoState)

-- ---- begin: 101, the sheet's refusals, 102 where the bit is none, 21

abbrev pub bit_in : ℕ → Result Bool HostRefusal
bit_in w = cond (nat_lt w 2) (Ok (w == 1)) (Err NoState)

abbrev pub begun_kept : Result InRound Refusal → Result EndWords HostRefusal
begun_kept (Ok e) = Ok (round_kept e)
begun_kept (Err e) = Err (Engine e)

abbrev pub begin_on : List ℕ → ℕ → ℕ → Result EndWords HostRefusal
begin_on sheet site bit = then_by (checked sheet) (λ _. then_by (bit_in bit) (λ b. begun_kept (begin_reply (sheet_network sheet) (site_of site) b)))

abbrev pub begin_outcome : List ℕ → ℕ → ℕ → List ℕ → Result EndWords HostRefusal
begin_outcome sheet site bit state = cond (nat_lt (length state) 7) (Err TooShort) (begin_on sheet site bit)

-- whether what a host lends for a state or a notebook is too short
abbrev pub too_short : List ℕ → List ℕ → Bool
too_short state book = nat_lt (length state) 7 || nat_lt (length book) 325

-- ---- speak: 101, the sheet's refusals, 102, 14; else the words owed

-- how many words there are, and the words, over others
abbrev pub counted_over : List ℕ → List ℕ → List ℕ
counted_over ws old = length ws ∷ ws ++ drop (length ws + 1) old

-- the words owed, where speaking on an empty board was accepted
abbrev pub owed_if : Result ℕ Refusal → List ℕ → Result (List ℕ) HostRefusal
owed_if (Ok k) ws = Ok ws
owed_if (Err e) ws = Err (Engine e)

abbrev pub speak_on : Network → EndWords → List ℕ → Result (List ℕ) HostRefusal
speak_on N w book = then_by (round_in w) (λ e. owed_if (speak_reply 120 N silent e book) (owed_by N e book))

abbrev pub speak_outcome : List ℕ → List ℕ → List ℕ → List ℕ → Result (List ℕ) HostRefusal
speak_outcome sheet state book room =
    cond (too_short state book) (Err TooShort)
    (cond (nat_lt (length room) 121) (Err TooShort)
    (then_by (checked sheet) (λ _. speak_on (sheet_network sheet) (end_at state) (take 325 book))))

-- ---- take: 101, the sheet's refusals, 102, 14; else the state and the notebook that come then

-- the first k pairs of some words, a site and a word each, put on an empty board one after another; what it refuses is left out
abbrev pub heard_first : List ℕ → ℕ → Lanes
heard_first ws zero = silent
heard_first ws (suc k) = put_next 120 (heard_first ws k) (site_of (slice_index ws (2 * k))) (slice_index ws (2 * k + 1))

abbrev pub heard_lanes : List ℕ → Lanes
heard_lanes ws = heard_first ws (length ws / 2)

-- what a taken round leaves
pub record Step : Type 0 where
  pub state : EndWords
  pub book : List ℕ

abbrev pub stepped : Network → Lanes → List ℕ → InRound → Result Step HostRefusal
stepped N ls book e = cond (same_size N e.n e.f) (Ok (record { state = after_taking (taken e); book = book_taken N ls e book })) (Err (Engine OtherPlan))

abbrev pub take_on : Network → Lanes → EndWords → List ℕ → Result Step HostRefusal
take_on N ls w book = then_by (round_in w) (stepped N ls book)

abbrev pub take_outcome : List ℕ → List ℕ → List ℕ → List ℕ → Result Step HostRefusal
take_outcome sheet state heard book =
    cond (too_short state book) (Err TooShort)
    (then_by (checked sheet) (λ _. take_on (sheet_network sheet) (heard_lanes heard) (end_at state) (take 325 book)))

abbrev pub state_in : Result Step HostRefusal → Result EndWords HostRefusal
state_in (Ok s) = Ok s.state
state_in (Err e) = Err e

-- ---- weigh: 101, the sheet's refusals, 102, 14; else the state that comes then

abbrev pub weighed_kept : Network → List ℕ → InWeighing → Result EndWords HostRefusal
weighed_kept N book w = cond (same_size N w.n w.f) (Ok (after_weighing (weighed N w book))) (Err (Engine OtherPlan))

abbrev pub weigh_on : Network → EndWords → List ℕ → Result EndWords HostRefusal
weigh_on N w book = then_by (weighing_in w) (weighed_kept N book)

abbrev pub weigh_outcome : List ℕ → List ℕ → List ℕ → Result EndWords HostRefusal
weigh_outcome sheet state book =
    cond (too_short state book) (Err TooShort)
    (then_by (checked sheet) (λ _. weigh_on (sheet_network sheet) (end_at state) (take 325 book)))

-- ---- what fits words

abbrev pub WordsFit : Numbers → Type 0
WordsFit x = (x.phase < 2 ^ 32) × (x.round < 2 ^ 32)

abbrev pub RoundFits : InRound → Type 0
RoundFits e = (e.phase < 2 ^ 32) × (e.round < 2 ^ 32)

abbrev pub TakenFits : Afterwards → Type 0
TakenFits (next_round e) = RoundFits e
TakenFits (all_taken w) = w.phase < 2 ^ 32

abbrev pub WeighedFits : Standing → Type 0
WeighedFits (in_round e) = RoundFits e
WeighedFits (done b) = Unit {0}
