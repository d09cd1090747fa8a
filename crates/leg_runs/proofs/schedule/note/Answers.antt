use Rattle.std.proofs.Common.{sym, subst}
use Rattle.leg_runs.specs.Choosing.{IsRecounted}
use Rattle.leg_runs.proofs.Counting.{recounted_both}
use Rattle.leg_runs.proofs.schedule.note.Goals as goal

pub returns-in-Some : goal.returns-in-Some
returns-in-Some c =
    subst (λ o. IsRecounted c.args.world.now c.args.layout.now c.args.task o c.args.counts.now c.recount-in-Some.new.counts) (sym c.in-Some.is)
    (recounted_both c.args.world.now c.args.layout.now c.args.task c.in-Some.other c.args.counts.now c.recount.new.counts c.recount-in-Some.new.counts c.recount.ensures c.recount-in-Some.ensures)
