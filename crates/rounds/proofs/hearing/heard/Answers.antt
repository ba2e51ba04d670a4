use Rattle.std.proofs.Common.{ap, ◌∙◌}
use Rattle.sites.specs.Lists.{front, final}
use Rattle.words.specs.Words.{sites_of}
use Rattle.airs.specs.Lanes.{lane}
use Rattle.notebooks.specs.Floods.{first_of_two, heard_in}
use Rattle.notebooks.proofs.Floods.{first_word}
use Rattle.tables.specs.Entries.{path_word}
use Rattle.rounds.proofs.Paths.{front_carried}
use Rattle.rounds.proofs.hearing.heard.Goals as goal

pub returns : goal.returns
unfolding heard_in
returns g c =
    let p = sites_of c.args.path.now in
    let ls = g.A.Air.lanes c.args.air.now in
    c.search.ensures
    ∙ ap (λ w. first_of_two w (lane ls c.last_site.result)) c.front_word.ensures
    ∙ ap (λ s. first_of_two (path_word (front p)) (lane ls s)) c.last_site.ensures
    ∙ first_word (front p) (front_carried p c.args.path.now.lawful) (lane ls (final p))
