-- What a list of legs must meet, and the fault where it does not, in the order in which they are decided.
use Rattle.std.specs.Prelude.{◌-◌, nat_le, Bool, true, false, ◌&&◌, List, take, length}
use Rattle.std.specs.List.{list_all}
use Rattle.legs.specs.declared.leg.LegSpec.{LegSpec}
use Rattle.legs.specs.declared.limits.TheConstants.{MOST_LEGS}
use Rattle.legs.specs.declared.stop.Stop.{Stop}
use Rattle.legs.specs.declared.stop.Stop.TheVariants.{Never, At}

abbrev pub stops : Stop → Bool
stops Never = false
stops (At cut) = true

abbrev pub is_stop : LegSpec → Bool
is_stop leg = stops leg.stop

-- 1 to 1,024 legs, of which each but the last stops
unfoldable pub are_legs : List LegSpec → Bool
are_legs legs = nat_le 1 (length legs) && nat_le (length legs) MOST_LEGS && list_all is_stop (take (length legs - 1) legs)
