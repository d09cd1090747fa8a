-- Reading the scales of legs one after the other, as a loop does.
use Rattle.std.proofs.Common.{List, ◌++◌, Result, Ok}
use Rattle.legs.specs.declared.fault.LegFault.{LegFault}
use Rattle.legs.specs.declared.leg.LegSpec.{LegSpec}
use Rattle.leg_lists.specs.Said.{◌>>=◌}

-- the legs that were made before, and those that are still to come
abbrev pub with_front : List LegSpec → Result (List LegSpec) LegFault → Result (List LegSpec) LegFault
with_front front rest = rest >>= λ legs. Ok (front ++ legs)
