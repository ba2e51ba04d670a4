-- The number of each refusal, in the order of the table: where several apply, the upper one answers.
use Rattle.std.specs.Prelude.{ℕ}
use Rattle.sites.specs.declared.refusal.Refusal.{Refusal}
use Rattle.sites.specs.declared.refusal.Refusal.TheVariants.{SheetSize, Head, Kind, Edge, Path, Fan, NoRoute, NoFan, MaskSite, ManyRogues, OtherPlan, NoSite, SoundSite, RogueSite, Over, Spoken, LaneFull, Unspoken, Undecided, Unheard}

abbrev pub number_of : Refusal → ℕ
number_of SheetSize = 1
number_of Head = 2
number_of Kind = 3
number_of Edge = 4
number_of Path = 5
number_of Fan = 6
number_of NoRoute = 7
number_of NoFan = 8
number_of MaskSite = 11
number_of ManyRogues = 12
number_of OtherPlan = 14
number_of NoSite = 21
number_of SoundSite = 22
number_of RogueSite = 23
number_of Over = 24
number_of Spoken = 26
number_of LaneFull = 25
number_of Unspoken = 27
number_of Undecided = 28
number_of Unheard = 29
