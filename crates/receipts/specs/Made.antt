-- What the receipt of a leg says.
use Rattle.std.specs.Prelude.{ℕ, ◌-◌, ◌^◌, min, List, length, Option, option_map}
use Rattle.sha2.specs.Sha256.{sha256}
use Rattle.plan_model.specs.PlanData.{PlanData}
use Rattle.plan_record.specs.PlanRecord.{plan_record}
use Rattle.stream_model.specs.InputData.{InputData}
use Rattle.stream_model.specs.Watermarks.{records_before}
use Rattle.receipts.specs.declared.digests.Counted.{Counted}
use Rattle.receipts.specs.declared.receipt.Receipt.{Receipt}
use Rattle.receipts.specs.Compared.{counted_bytes}
use Rattle.receipts.specs.Counts.{lines_in}
use Rattle.receipts.specs.Read.{read_before}

-- how many rows a text has, and its digest
abbrev pub counted_rows : List ℕ → Counted
counted_rows rows = record { count = lines_in rows; digest = sha256 rows }

abbrev pub counted_names : Option (List ℕ) → Option Counted
counted_names names = option_map counted_bytes names

abbrev pub counted_plan : PlanData → Counted
counted_plan p = counted_bytes (plan_record p)

-- of a leg that is the last of so many, has read an input up to a cut, and has written a text of rows
abbrev pub receipt_of : PlanData → InputData → List (List ℕ) → ℕ → List ℕ → Option (List ℕ) → Receipt
receipt_of p i cut legs rows names = record {
  legs = legs;
  plan = counted_plan p;
  sources = read_before i.sources cut;
  records = min (length (records_before i.sources cut)) (2 ^ 64 - 1);
  rows = counted_rows rows;
  names = counted_names names;
}
