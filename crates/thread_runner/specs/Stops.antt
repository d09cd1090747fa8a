-- How far a leg on threads goes.
use Rattle.dataflow_model.specs.Leg as model
use Rattle.thread_runner.specs.declared.stop.Stop.{Stop}
use Rattle.thread_runner.specs.declared.stop.Stop.TheVariants.{Never, At, Asked}

-- how far a leg goes that is to stop there
abbrev pub until_of : Stop → model.Until
until_of Never = model.ToEnd
until_of (At cut) = model.ToCut cut.counts
until_of (Asked word) = model.TillAsked
