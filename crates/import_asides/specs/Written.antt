-- CSV, record by record.
use Rattle.std.specs.Prelude.{◌≡◌, ◌==◌, ◌-◌, ◌^◌, ◌++◌, ◌||◌, ◌&&◌, not, min, ℕ, List, length, take, Option}
use Rattle.std.specs.Io.KnownBytes.{Appends}
use Rattle.std.specs.List.{flat_map}
use Rattle.csv.specs.Writing.{default_writer, fields_written, has_written, is_blank, row_body, row_text, text_written, writer_setup}
use Rattle.csv.specs.declared.writer.Writer.{Writer}
use Rattle.imports.specs.declared.fault.RowFault.{RowFault}
use Rattle.imports.specs.declared.fault.RowFault.TheVariants.{Memory, Write}
use Rattle.import_asides.specs.declared.writer.CsvWriter.{CsvWriter}

-- the text of records: a line of each, of its fields
abbrev pub csv_text : List (List (List ℕ)) → List ℕ
csv_text records = flat_map (row_text default_writer) records

-- the text of a record, without the line feed that ends it
abbrev pub text_of_fields : List (List ℕ) → List ℕ
text_of_fields fields = take (length (row_text default_writer fields) - 1) (row_text default_writer fields)

-- a writer of CSV is behind these fields of a record
pub record IsBehindFields {W : Type 0} (fields : List (List ℕ)) (out : Writer W) : Type 0 where
  pub setup : writer_setup out ≡ default_writer
  pub count : fields_written out ≡ min (length fields) (2 ^ 64 - 1)
  pub blank : is_blank default_writer fields ≡ (not (has_written out) && ((fields_written out == 0) || (fields_written out == 1)))

-- since it had this text it was given the text of records, and these fields of one that is open; what it holds back is
-- part of it
pub record HasRecords {W : Type 0} (contents : W → Option (List ℕ)) (start : Option (List ℕ)) (records : List (List (List ℕ))) (open_fields : List (List ℕ)) (out : CsvWriter W) : Type 0 where
  pub behind : IsBehindFields open_fields out.writer.value
  pub text : Appends start (text_written contents out.writer.value) (csv_text records ++ row_body default_writer open_fields)

-- what is written could not be, or there was no memory
abbrev pub IsUnwritten : RowFault → Type 0
IsUnwritten Write = Unit {0}
IsUnwritten Memory = Unit {0}
IsUnwritten fault = ⊥
