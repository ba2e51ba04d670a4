use Rattle.std.proofs.Common.{◌<◌, length, refl, arith}
use Rattle.std.proofs.lemmas.List.{take_more_set, length-take-le}
use Rattle.tables.proofs.draft.Draft.push.Goals as goal

pub returns : goal.returns
returns c =
    let h : c.args.self.now.len < length c.args.self.now.entries =
    omega (arith, length-take-le c.args.self.now.len c.args.self.now.entries (omega arith)) in
    record { paths = take_more_set c.args.self.now.entries c.args.self.now.len c.args.path h; ends = refl }
