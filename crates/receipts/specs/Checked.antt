-- Whether a leg can go on by a receipt.
use Rattle.std.specs.Prelude.{◌≡◌, ◌⊎◌, ℕ, List, map, length, Option, Result, Ok, Err}
use Rattle.plan_model.specs.PlanData.{PlanData}
use Rattle.plan_record.specs.PlanRecord.{plan_record}
use Rattle.stream_model.specs.InputData.{InputData}
use Rattle.receipts.specs.declared.fault.ReceiptFault.{ReceiptFault}
use Rattle.receipts.specs.declared.fault.ReceiptFault.TheVariants.{Memory}
use Rattle.receipts.specs.declared.receipt.Receipt.{Receipt}
use Rattle.receipts.specs.Compared.{ChecksSources, names_checked, plan_checked}
use Rattle.receipts.specs.Read.{read_before}

-- a receipt has the sources of a plan, each with its partitions
abbrev pub HasSourcesOf : PlanData → Receipt → Type 0
HasSourcesOf p r = map (λ partitions. length partitions) r.sources ≡ map (λ s. s.partitions) p.sources

-- the plan is the one that was told of, or memory ran out
abbrev pub ChecksRecord : PlanData → Receipt → Result (Unit {0}) ReceiptFault → Type 0
ChecksRecord p r result = (result ≡ plan_checked r.plan (plan_record p)) ⊎ (result ≡ Err Memory)

-- the entries before a cut are, or the first partition is named that differs, or memory ran out
abbrev pub ChecksInput : PlanData → InputData → List (List ℕ) → Receipt → Result (Unit {0}) ReceiptFault → Type 0
ChecksInput p i cut r result = ChecksSources (map (λ s. s.uid) p.sources) r.sources (read_before i.sources cut) result ⊎ (result ≡ Err Memory)

-- what comes next, where what came before is Ok
abbrev pub Then : Result (Unit {0}) ReceiptFault → (Result (Unit {0}) ReceiptFault → Type 0) → Result (Unit {0}) ReceiptFault → Type 0
Then (Ok _) Next result = Next result
Then (Err fault) Next result = result ≡ Err fault

-- the plan, the entries before a cut and the names are those that were told of, or the first of them is named that is
-- not
abbrev pub ChecksReceipt : PlanData → InputData → List (List ℕ) → Receipt → Option (List ℕ) → Result (Unit {0}) ReceiptFault → Type 0
ChecksReceipt p i cut r names result =
    (plan : Result (Unit {0}) ReceiptFault) × ChecksRecord p r plan
    × Then plan (λ later. (entries : Result (Unit {0}) ReceiptFault) × ChecksInput p i cut r entries × Then entries (λ last. last ≡ names_checked r.names names) later) result
