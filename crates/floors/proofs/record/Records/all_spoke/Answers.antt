use Rattle.std.proofs.Common.{rules, tests, ℕ, Bool, ◌||◌, refl, ◌∙◌, arith}
use Rattle.std.proofs.lemmas.Iterator.{YieldsList-from_range}
use Rattle.std.proofs.lemmas.Iterator.Search.{all_from_yields_List}
use Rattle.sites.specs.Sets.{in_set}
use Rattle.floors.specs.Views.{record_at}
use Rattle.floors.proofs.Ranges.{range_all}
use Rattle.floors.proofs.record.Records.all_spoke.Goals as goal

pub returns : goal.returns
returns c =
    let rogues = c.args.rogues.bits in
    let rs = c.args.self.now in
    let n = c.args.n in
    let done : ℕ → Bool = λ s. in_set rogues s || (record_at rs s).spoken in
    all_from_yields_List done _ _ c.all.result c.all.ensures.ran (YieldsList-from_range 0 n n refl (omega arith)) (λ s b q k. search (rules, tests)) ∙ range_all done 0 n
