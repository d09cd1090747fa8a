-- Bad records.
use Rattle.std.specs.Prelude.{◌++◌, ◌∷◌, [], ℕ, List, Option, Some, None, codes, decimal, string_bytes}
use Rattle.import_words.specs.Codes.{code_text}
use Rattle.import_words.specs.declared.refusal.ImportFault.{ImportFault}
use Rattle.import_words.specs.declared.refusal.ImportFault.TheVariants.{Memory, Refused, Write}
use Rattle.csv.specs.Records.{fields_of}
use Rattle.object_lines.specs.Lines.{bare_line, line_in}
use Rattle.imports.specs.declared.kinds.Records.{Records}
use Rattle.imports.specs.declared.kinds.Records.TheVariants.{Objects, Rows}
use Rattle.import_asides.specs.declared.bad.BadRecords.{BadRecords}
use Rattle.import_asides.specs.Written.{HasRecords, text_of_fields}

-- the names of the fields
abbrev pub bad_names : List (List ℕ)
bad_names = codes "file" ∷ codes "line" ∷ codes "code" ∷ codes "reason" ∷ codes "record" ∷ []

-- the text of a record as it stands: of CSV its fields, and of NDJSON the line
abbrev pub record_told : {R : Type 0} → Records R → List ℕ
record_told (Rows rows) = text_of_fields (fields_of rows.record)
record_told (Objects lines) = bare_line (line_in lines)

-- the file, the line and the text of a bad record, with the code and the reason between, if it is refused
abbrev pub bad_fields : List ℕ → ℕ → ImportFault → List ℕ → Option (List (List ℕ))
bad_fields file line (Refused code reason) text = Some (file ∷ decimal line ∷ code_text code ∷ string_bytes reason ∷ text ∷ [])
bad_fields file line Write text = None
bad_fields file line Memory text = None

-- since it had this text it was given the text of records
abbrev pub HasBad : {W : Type 0} → (W → Option (List ℕ)) → Option (List ℕ) → List (List (List ℕ)) → BadRecords W → Type 0
HasBad contents start records bad = HasRecords contents start records [] bad.writer

-- so it was, and then of that of one more, if there is one
abbrev pub HasMoreBad : {W : Type 0} → (W → Option (List ℕ)) → Option (List ℕ) → List (List (List ℕ)) → Option (List (List ℕ)) → BadRecords W → Type 0
HasMoreBad contents start records None bad = ⊥
HasMoreBad contents start records (Some fields) bad = HasBad contents start (records ++ fields ∷ []) bad
