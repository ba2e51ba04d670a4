-- What the states of a single end keep.
use Rattle.single_end.specs.Ends.{InRound, InWeighing}
use Rattle.single_end.specs.declared.end_site.EndSite.{EndSite}
use Rattle.single_end.specs.declared.round.Round.{Round}
use Rattle.single_end.specs.declared.weighing_state.Weighing.{Weighing}

abbrev pub seen_round : Round → InRound
seen_round r = record { site = r.end.site; holds = r.end.bit; phase = r.end.phase; round = r.round; n = r.end.n; f = r.end.f }

-- without the round
abbrev pub seen_end : EndSite → InWeighing
seen_end e = record { site = e.site; holds = e.bit; phase = e.phase; n = e.n; f = e.f }

abbrev pub seen_weighing : Weighing → InWeighing
seen_weighing w = seen_end w.end
