use Rattle.std.proofs.Common.{Ok, subst}
use Rattle.words.specs.Words.{MakesWord, meaning_of, sites_of}
use Rattle.rounds.proofs.Words.{flood, front_written}
use Rattle.rounds.proofs.recalling.front_word.Goals as goal

pub returns : goal.returns
returns c =
    let q = sites_of c.front_of.result in
    let made : MakesWord (flood q) (Ok c.unwrap.result) = subst (MakesWord (flood q)) c.unwrap.ensures c.new.ensures in
    front_written q (sites_of c.args.path.now) c.write.result (meaning_of c.unwrap.result) c.front_of.ensures made.1 c.write.ensures.value
