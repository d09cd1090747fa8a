-- Why rows make no batch.
use Rattle.std.specs.Prelude.{ℕ, ◌==◌, nat_lt, not, List, length, Option, Some, None, if◌then◌else◌}
use Rattle.std.specs.List.{position}
use Rattle.std.specs.Option.{option_or, option_map}
use Rattle.columns.specs.declared.TheConstants.{MOST_ROWS}
use Rattle.columns.specs.declared.fault.BatchFault.{BatchFault}
use Rattle.columns.specs.declared.fault.BatchFault.TheVariants.{Width, Rows}
use Rattle.plain_data.specs.Record.{Record}

-- the first cause that stands: a row of another length, then too many rows
abbrev pub first_fault : List Record → ℕ → Option BatchFault
first_fault rows width =
    option_or (option_map Width (position (λ row. not (length row == width)) rows))
    (if nat_lt MOST_ROWS (length rows) then Some Rows else None)
