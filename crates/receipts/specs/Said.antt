-- What a JSON value, and bytes, say as a receipt. None: a part is missing or of another form.
use Rattle.std.specs.Prelude.{◌==◌, ◌-◌, ℕ, List, [], ◌∷◌, map, length, take, drop, bytes_eq, codes, Option, Some, None, option_and_then, Result, Ok, Err, if◌then◌else◌}
use Rattle.std.specs.Option.{option_map_or}
use Rattle.hex.specs.Hex.{decode_sized}
use Rattle.hex.specs.declared.error.FromHexError.{FromHexError}
use Rattle.serde_json.specs.Data.{Data}
use Rattle.serde_json.specs.Find.{get}
use Rattle.json_parts.specs.Parts.{◌>>=◌, count_text, each_at, json_of, object_of, text_at}
use Rattle.plan_model.specs.declared.spec.SourceSpec.{SourceSpec}
use Rattle.receipts.specs.declared.digests.Counted.{Counted}
use Rattle.receipts.specs.declared.fault.ReceiptFault.{ReceiptFault}
use Rattle.receipts.specs.declared.fault.ReceiptFault.TheVariants.{Form}
use Rattle.receipts.specs.declared.receipt.Receipt.{Receipt}
use Rattle.receipts.specs.ReceiptText.{count_name, digest_name}

-- a whole number of 0 to 2^64 - 1 under a name
unfoldable pub count_at : List ℕ → Data → Option ℕ
count_at name d = option_and_then count_text (get name d)

abbrev pub if_decoded : Result (List ℕ) FromHexError → Option (List ℕ)
if_decoded (Ok bytes) = Some bytes
if_decoded (Err fault) = None

-- 64 hexadecimal digits, in either case
unfoldable pub digest_said : List ℕ → Option (List ℕ)
digest_said text = if_decoded (decode_sized text 32)

-- how many, and their digest
unfoldable pub counted_said : Data → Option Counted
counted_said d = object_of (count_name ∷ digest_name ∷ []) d (do
  n ← count_at count_name d
  text ← text_at digest_name d
  digest ← digest_said text
  Some (record { count = n; digest = digest }))

unfoldable pub counted_at : List ℕ → Data → Option Counted
counted_at name d = option_and_then counted_said (get name d)

-- the same, where a member has the name
unfoldable pub counted_if_there : List ℕ → Data → Option (Option Counted)
counted_if_there name d = option_map_or (λ v. counted_said v >>= λ c. Some (Some c)) (get name d) (Some None)

-- partitions, if they are so many
abbrev pub if_as_many : ℕ → List Counted → Option (List Counted)
if_as_many n partitions = if length partitions == n then Some partitions else None

-- the partitions of a source, as many as the plan's
abbrev pub source_said : Data → SourceSpec → Option (List Counted)
source_said d s = option_and_then (if_as_many s.partitions) (each_at counted_said s.uid d)

abbrev pub each_source : Data → List SourceSpec → Option (List (List Counted))
each_source d [] = Some []
each_source d (s ∷ ss) = do
  partitions ← source_said d s
  rest ← each_source d ss
  Some (partitions ∷ rest)

-- those of all sources of a plan, in its order, and no other
unfoldable pub sources_said : List SourceSpec → Data → Option (List (List Counted))
sources_said sources d = object_of (map (λ s. s.uid) sources) d (each_source d sources)

unfoldable pub sources_at : List ℕ → List SourceSpec → Data → Option (List (List Counted))
sources_at name sources d = option_and_then (sources_said sources) (get name d)

abbrev pub member_names : List (List ℕ)
member_names = codes "version" ∷ codes "legs" ∷ codes "plan" ∷ codes "sources" ∷ codes "names" ∷ codes "records" ∷ codes "rows" ∷ []

-- a receipt of a job whose plan has these sources
unfoldable pub receipt_said : List SourceSpec → Data → Option Receipt
receipt_said sources d = object_of member_names d (do
  version ← text_at (codes "version") d
  legs ← count_at (codes "legs") d
  plan ← counted_at (codes "plan") d
  read ← sources_at (codes "sources") sources d
  records ← count_at (codes "records") d
  rows ← counted_at (codes "rows") d
  names ← counted_if_there (codes "names") d
  Some (record { legs = legs; plan = plan; sources = read; records = records; rows = rows; names = names }))

-- bytes without a line feed at their end
abbrev pub without_line_feed : List ℕ → List ℕ
without_line_feed bytes = if bytes_eq (drop (length bytes - 1) bytes) (10 ∷ []) then take (length bytes - 1) bytes else bytes

unfoldable pub receipt_of_bytes : List SourceSpec → List ℕ → Option Receipt
receipt_of_bytes sources bytes = json_of (without_line_feed bytes) >>= receipt_said sources

-- the receipt, or that the bytes are none
abbrev pub receipt_or_fault : List SourceSpec → List ℕ → Result Receipt ReceiptFault
receipt_or_fault sources bytes = option_map_or Ok (receipt_of_bytes sources bytes) (Err Form)
