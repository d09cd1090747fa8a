use Rattle.std.proofs.Common.{◌≡◌, take}
use Rattle.csv.specs.Records.{fields_of}
use Rattle.known_records.specs.Known.{key_said}
use Rattle.known_records.proofs.known.fill_key.Given as goal

abbrev pub invariant-loop-column : goal.invariant-loop-column
invariant-loop-column l = l.key.items ≡ key_said (take l.column-index l.columns) l.places (fields_of l.fields)
