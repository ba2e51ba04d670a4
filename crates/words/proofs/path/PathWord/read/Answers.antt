use Rattle.std.proofs.Common.{ap, sym, refl, ◌∙◌, arith, rules}
use Rattle.std.proofs.lemmas.Bool.{and_from}
use Rattle.words.specs.Kinds.{kind_named}
use Rattle.words.proofs.Codec.{read_ok, word_back, same_word}
use Rattle.words.proofs.path.PathWord.read.Goals as goal

pub returns : goal.returns
returns c =
    let q = c.in_ok-path.ensures in
    let p = c.in_ok-path.path in
    let r = read_ok c.args.word c.in_ok-kind.kind p.sites p.len (ap kind_named (sym c.kind_of.ensures) ∙ c.in_ok-kind.ensures) (search rules) (omega arith) (q.1 ∙ c.sites_in.ensures) q.2 (and_from _ _ p.lawful p.padded) in
    record { answer = r; back = word_back c.args.word _ r; alone = same_word c.args.word _ r; examples = record { path_one = refl; no_bit = refl } }
