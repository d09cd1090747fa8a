use Rattle.thread_runner.proofs.WireLemmas.{wiring_none}
use Rattle.thread_runner.proofs.wiring.wire.Goals as goal

pub loop-task-init : goal.loop-task-init
loop-task-init c = wiring_none c.args.layout.now.stages c.args.jobs.now c.requires.bare
