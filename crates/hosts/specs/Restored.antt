-- The states that are made of a host's words.
use Rattle.std.specs.Prelude.{cond, ◌&&◌, Ok, Err, Result, ◌==◌, nat_lt}
use Rattle.single_end.specs.Ends.{InRound, InWeighing}
use Rattle.single_end.specs.States.{seen_round, seen_weighing}
use Rattle.single_end.specs.declared.round.Round.{Round}
use Rattle.single_end.specs.declared.weighing_state.Weighing.{Weighing}
use Rattle.single_end.specs.declared.numbers.Numbers.{Numbers}
use Rattle.hosts.specs.declared.refused.HostRefusal.{HostRefusal}
use Rattle.hosts.specs.declared.refused.HostRefusal.TheVariants.{NoState}
use Rattle.hosts.specs.declared.end_words.EndWords.{EndWords}
use Rattle.hosts.specs.declared.end_words.Tag.{Tag}
use Rattle.hosts.specs.Ends.{tag_word}

-- the numbers of a state with a tag that the words tell, where each fits; else 102
abbrev pub numbers_told : Tag → EndWords → Result Numbers HostRefusal
numbers_told t w =
    cond (w.tag == tag_word t && (nat_lt w.site 256 && (nat_lt w.bit 2 && (nat_lt w.n 256 && nat_lt w.f 256))))
    (Ok (record { site = w.site; bit = (w.bit == 1); phase = w.phase; round = w.round; n = w.n; f = w.f }))
    (Err NoState)

-- what a state keeps, where there is one
abbrev pub round_made : Result Round HostRefusal → Result InRound HostRefusal
round_made (Ok r) = Ok (seen_round r)
round_made (Err e) = Err e

abbrev pub weighing_made : Result Weighing HostRefusal → Result InWeighing HostRefusal
weighing_made (Ok w) = Ok (seen_weighing w)
weighing_made (Err e) = Err e
