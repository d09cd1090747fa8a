-- How legs end.
use Rattle.std.specs.Prelude.{Bool, true, false}
use Rattle.dataflow_model.specs.declared.ending.Ending.{Ending}
use Rattle.dataflow_model.specs.declared.ending.Ending.TheVariants.{AtEnd, AtCut, Asked}

-- whether a leg that ends so may have the barrier of a stop
abbrev pub may_stop : Ending → Bool
may_stop AtEnd = false
may_stop AtCut = true
may_stop Asked = true
