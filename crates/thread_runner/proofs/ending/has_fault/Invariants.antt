use Rattle.std.proofs.Common.{take}
use Rattle.thread_runner.specs.Legs.{NoFaults}
use Rattle.thread_runner.proofs.ending.has_fault.Given as goal

abbrev pub invariant-loop-done : goal.invariant-loop-done
invariant-loop-done l = NoFaults (take l.done-index l.dones)
