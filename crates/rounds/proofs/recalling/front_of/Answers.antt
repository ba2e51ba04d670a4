use Rattle.std.proofs.Common.{subst, ◌∙◌, take, Ok}
use Rattle.words.specs.Words.{MakesPath}
use Rattle.rounds.proofs.Paths.{front_made, front_taken}
use Rattle.words.specs.Words.{sites_of}
use Rattle.rounds.proofs.recalling.front_of.Goals as goal

pub unwrap-requires : goal.unwrap-requires
unwrap-requires c = front_made c.args.path.now c.sites-sites.result.now c.saturating_sub.result c.new.result c.sites-sites.ensures c.saturating_sub.ensures c.new.ensures

pub returns : goal.returns
returns c =
    let ss = c.sites-sites.result.now in
    let made : MakesPath (take c.saturating_sub.result ss) (Ok c.unwrap.result) = subst (MakesPath (take c.saturating_sub.result ss)) c.unwrap.ensures c.new.ensures in
    made.1 ∙ front_taken (sites_of c.args.path.now) ss c.saturating_sub.result c.sites-sites.ensures c.saturating_sub.ensures
