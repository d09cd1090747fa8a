use Rattle.thread_runner.proofs.ending.conclude.Goals as goal

pub finished-requires-clause-fine : goal.finished-requires-clause-fine
finished-requires-clause-fine c = rw c.as_slice.ensures.value at (c.has_fault.ensures.0 c.if-has_fault.false)
