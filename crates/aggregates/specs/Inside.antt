-- The fields of an accumulator, and the value that they stand for.
use Rattle.std.specs.Prelude.{◌≡◌, pos, ◌≤◌, length, take}
use Rattle.aggregates.specs.declared.kind.Kind.TheVariants.{Count}
use Rattle.aggregates.specs.declared.acc.Acc.TheInside.{Inside}
use Rattle.aggregates.specs.Kinds.{AccData, IsAcc, padded}
use Rattle.plan_model.specs.declared.limits.TheConstants.{MOST_AGGREGATES}

abbrev pub acc_view : Inside → AccData
acc_view a = record { kinds = take a.width a.kinds; total = record { count = a.count; numbers = take a.width a.numbers } }

abbrev pub acc_fields : AccData → Inside
acc_fields d = record { count = d.total.count; width = length d.kinds; kinds = padded Count d.kinds; numbers = padded (pos 0) d.total.numbers }

-- the value is an accumulator's, and the places past the width are the filler's
pub record IsInside (a : Inside) : Type 0 where
  pub sound : IsAcc (acc_view a)
  pub width : a.width ≤ MOST_AGGREGATES
  pub kinds : a.kinds ≡ padded Count (take a.width a.kinds)
  pub numbers : a.numbers ≡ padded (pos 0) (take a.width a.numbers)
