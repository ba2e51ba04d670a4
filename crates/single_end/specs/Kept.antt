-- The numbers that a host keeps of a state, and the state of some numbers.
use Rattle.std.specs.Prelude.{cond, Some, None, Option, nat_lt}
use Rattle.single_end.specs.Ends.{InRound, InWeighing}
use Rattle.single_end.specs.declared.numbers.Numbers.{Numbers}

-- the numbers of a round
abbrev pub round_numbers : InRound → Numbers
round_numbers e = record { site = e.site; bit = e.holds; phase = e.phase; round = e.round; n = e.n; f = e.f }

-- the round of some numbers; there is one where the site is below n
abbrev pub round_from : Numbers → Option InRound
round_from x = cond (nat_lt x.site x.n) (Some (record { site = x.site; holds = x.bit; phase = x.phase; round = x.round; n = x.n; f = x.f })) None

-- the numbers of a weighing, which is in no round
abbrev pub weighing_numbers : InWeighing → Numbers
weighing_numbers w = record { site = w.site; bit = w.holds; phase = w.phase; round = 0; n = w.n; f = w.f }

-- the weighing of some numbers; there is one where the site is below n
abbrev pub weighing_from : Numbers → Option InWeighing
weighing_from x = cond (nat_lt x.site x.n) (Some (record { site = x.site; holds = x.bit; phase = x.phase; n = x.n; f = x.f })) None
