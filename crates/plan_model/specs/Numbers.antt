-- Numbers that stand in a row itself.
use Rattle.std.specs.Prelude.{ℤ, ◌&&◌, nat_le, Bool, List, length}
use Rattle.std.specs.List.{list_all}
use Rattle.byte_fields.specs.Fields.{is_i64}
use Rattle.plan_model.specs.declared.limits.TheConstants.{MOST_AGGREGATES}

-- the numbers are at most 8, each of 64 bits
abbrev pub are_narrow : List ℤ → Bool
are_narrow numbers = nat_le (length numbers) MOST_AGGREGATES && list_all is_i64 numbers
