-- How far a leg goes, and where it takes savepoints on its way.
use Rattle.std.specs.Prelude.{ℕ, List, map}
use Rattle.dataflow_model.specs.Leg as model
use Rattle.legs.specs.declared.cut.Cut.{Cut}
use Rattle.legs.specs.declared.stop.Stop.{Stop}
use Rattle.legs.specs.declared.stop.Stop.TheVariants.{Never, At}
use Rattle.legs.specs.declared.until.Until.{Until}
use Rattle.legs.specs.declared.until.Until.TheVariants.{ToEnd, ToCut, TillAsked}

-- how far a leg goes that is to stop there
abbrev pub until_of : Stop → model.Until
until_of Never = model.ToEnd
until_of (At cut) = model.ToCut cut.counts

-- and as the code says it
abbrev pub until_in : Until → model.Until
until_in ToEnd = model.ToEnd
until_in (ToCut cut) = model.ToCut cut.counts
until_in TillAsked = model.TillAsked

-- the counts of cuts
abbrev pub counts_of : List Cut → List (List (List ℕ))
counts_of cuts = map (λ cut. cut.counts) cuts
