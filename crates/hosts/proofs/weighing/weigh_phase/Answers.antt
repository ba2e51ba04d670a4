use Rattle.single_end.specs.States.{seen_weighing}
use Rattle.hosts.proofs.Phases.{weighed_fits_in}
use Rattle.hosts.proofs.weighing.weigh_phase.Goals as goal

pub weighed_words-requires : goal.weighed_words-requires
weighed_words-requires c =
    weighed_fits_in c.args.plan.now (seen_weighing c.in_ok-weighing.field-0) c.args.book.now.words c.weigh.result c.in_ok-weighed.weighed c.weigh.ensures c.in_ok-weighed.ensures.cases
