use Rattle.std.proofs.Common.{◌≡◌, [], map, take, Some, string_bytes}
use Rattle.import_asides.specs.Naming.{name_records}
use Rattle.import_asides.specs.Written.{HasRecords}
use Rattle.import_asides.proofs.names.text_of_names.Given as goal

abbrev pub invariant-loop-i : goal.invariant-loop-i
invariant-loop-i l = record {
  names : map string_bytes l.name-items ≡ l.names;
  written : HasRecords (λ text. Some text.items) (Some []) (name_records (take l.i l.names)) [] l.out;
}
