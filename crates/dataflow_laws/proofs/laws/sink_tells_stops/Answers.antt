use Rattle.dataflow_laws.proofs.Halting.{sink_tells_stops}
use Rattle.dataflow_laws.proofs.laws.sink_tells_stops.Goals as goal

pub returns : goal.returns
returns c = sink_tells_stops
