use Rattle.std.proofs.Common.{ℕ, List, Option, map}
use Rattle.std.specs.List.{filter, range_with_len}
use Rattle.csv.specs.Records.{fields_of}
use Rattle.imports.specs.Rows.{column_text}
use Rattle.import_asides.specs.Apart.{HasApart, field_names, is_first}
use Rattle.import_asides.specs.Written.{HasRecords}
use Rattle.import_asides.proofs.aside.SetAside.put.Given as goal

abbrev pub invariant-loop-i : goal.invariant-loop-i
invariant-loop-i g l = (start : Option (List ℕ)) (records : List (List (List ℕ))) → HasApart g.W.Write.contents start records l.fn.self
    → HasRecords g.W.Write.contents start records (map (column_text l.places (fields_of l.«record»)) (filter (is_first (field_names l.columns)) (range_with_len 0 l.i))) l.self.writer
