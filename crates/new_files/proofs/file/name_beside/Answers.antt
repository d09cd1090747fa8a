use Rattle.std.proofs.Common.{rules, ◌^◌, ◌-◌, false, []}
use Rattle.std.specs.Fmt.{digits, padded_integral, format_spec}
use Rattle.new_files.proofs.file.name_beside.Goals as goal

pub returns : goal.returns
returns g c = (padded_integral (format_spec 32 0 4 16 (2 ^ 64 - 1)) false [] (digits 16 false c.from_le_bytes-number.result), search rules)
