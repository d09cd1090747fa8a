-- The time that a word spells.
use Rattle.std.specs.Prelude.{ℤ, pos, ◌-ℤ◌, ℕ, List, Option}
use Rattle.std.specs.Int.{int_max}
use Rattle.std.specs.Option.{option_or}
use Rattle.std.specs.Result.{result_ok}
use Rattle.plain_data.specs.Times.{lowest}
use Rattle.field_values.specs.Instants.{milliseconds_said}
use Rattle.job_texts.specs.Group.{key_said}

-- a number of 64 bits, or a date and time with the milliseconds since 1970
abbrev pub time_said : List ℕ → Option ℤ
time_said word = option_or (key_said word) (result_ok (milliseconds_said word))

-- the greatest watermark at which a window that ends after this time is not due
abbrev pub watermark_before : ℤ → ℤ
watermark_before time = int_max lowest (time -ℤ pos 1)
