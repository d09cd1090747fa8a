-- The start of a leg.
use Rattle.redistribute.specs.StartData.{StartData}
use Rattle.thread_runner.specs.declared.leg.Held.{Held}
use Rattle.thread_runner.specs.declared.leg.Held.TheVariants.{Lent, Own}

abbrev pub start_held : Held → StartData
start_held (Lent start) = start.now
start_held (Own start) = start
