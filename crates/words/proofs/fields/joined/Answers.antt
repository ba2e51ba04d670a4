use Rattle.std.proofs.Common.{◌≡◌, fold, ◌∙◌, rules}
use Rattle.std.proofs.iter.runs.Made.{chains}
use Rattle.words.proofs.Codec.{put, put_all}
use Rattle.words.proofs.fields.joined.Goals as goal

pub returns-clause-value : goal.returns-clause-value
returns-clause-value c =
    let h : c.fold.result ≡ fold put c.args.top c.args.sites.now = search (rules, chains) in
    h ∙ (put_all c.args.top c.args.sites.now c.told-sites c.requires.1 c.requires.0).0

pub returns-clause-bound : goal.returns-clause-bound
returns-clause-bound c =
    let h : c.fold.result ≡ fold put c.args.top c.args.sites.now = search (rules, chains) in
    let p = put_all c.args.top c.args.sites.now c.told-sites c.requires.1 c.requires.0 in
    rw (h, p.0) p.1
