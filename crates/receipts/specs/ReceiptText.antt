-- The text of a receipt: one JSON object in a line.
use Rattle.std.specs.Prelude.{ℕ, List, [], ◌++◌, map, zip, codes, Option, Some, None}
use Rattle.std.specs.Fmt.{decimal}
use Rattle.std.specs.List.{join_with_byte}
use Rattle.hex.specs.Hex.{encode_lower}
use Rattle.plan_model.specs.declared.spec.SourceSpec.{SourceSpec}
use Rattle.receipts.specs.declared.digests.Counted.{Counted}
use Rattle.receipts.specs.declared.receipt.Receipt.{Receipt}

-- a name in quotation marks, and a colon
abbrev pub label : List ℕ → List ℕ
label name = codes "\"" ++ (name ++ codes "\":")

-- a comma before it
abbrev pub next_label : List ℕ → List ℕ
next_label name = codes "," ++ label name

-- a text in quotation marks
abbrev pub quoted : List ℕ → List ℕ
quoted text = codes "\"" ++ (text ++ codes "\"")

-- how many, and their digest
unfoldable pub count_name : List ℕ
count_name = codes "count"

unfoldable pub digest_name : List ℕ
digest_name = codes "sha256"

abbrev pub counted_text : Counted → List ℕ
counted_text c = codes "{" ++ (label count_name ++ (decimal c.count ++ (next_label digest_name ++ (quoted (encode_lower c.digest) ++ codes "}"))))

-- a list of them
abbrev pub partitions_text : List Counted → List ℕ
partitions_text partitions = codes "[" ++ (join_with_byte 44 (map counted_text partitions) ++ codes "]")

-- a source under its name
abbrev pub source_member : SourceSpec × List Counted → List ℕ
source_member s = label s.0.uid ++ partitions_text s.1

abbrev pub sources_text : List SourceSpec → List (List Counted) → List ℕ
sources_text sources read = codes "{" ++ (join_with_byte 44 (map source_member (zip sources read)) ++ codes "}")

-- the table of names, where there is one
abbrev pub names_member : Option Counted → List ℕ
names_member None = []
names_member (Some names) = next_label (codes "names") ++ counted_text names

-- what was read
abbrev pub read_members : List SourceSpec → Receipt → List ℕ
read_members sources r = (next_label (codes "plan") ++ counted_text r.plan) ++ (next_label (codes "sources") ++ (sources_text sources r.sources ++ names_member r.names))

-- and what was written
abbrev pub count_members : Receipt → List ℕ
count_members r = next_label (codes "records") ++ (decimal r.records ++ (next_label (codes "rows") ++ counted_text r.rows))

-- the version that wrote it, and how many legs there are
abbrev pub head_text : List ℕ → ℕ → List ℕ
head_text version legs = codes "{" ++ (label (codes "version") ++ (quoted version ++ (next_label (codes "legs") ++ decimal legs)))

abbrev pub receipt_text : List ℕ → List SourceSpec → Receipt → List ℕ
receipt_text version sources r = head_text version r.legs ++ (read_members sources r ++ (count_members r ++ codes "}\n"))
