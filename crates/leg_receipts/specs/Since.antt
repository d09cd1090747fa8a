-- Whether a leg goes on by a receipt.
use Rattle.std.specs.Prelude.{◌≡◌, ◌⊎◌, ℕ, List, Option, Result, Ok, Err}
use Rattle.plan_model.specs.PlanData.{PlanData}
use Rattle.stream_model.specs.InputData.{InputData}
use Rattle.redistribute.specs.StartData.{offsets_of}
use Rattle.receipts.specs.declared.fault.ReceiptFault.{ReceiptFault}
use Rattle.receipts.specs.declared.fault.ReceiptFault.TheVariants.{Memory}
use Rattle.receipts.specs.declared.receipt.Receipt.{Receipt}
use Rattle.receipts.specs.Checked.{ChecksReceipt}
use Rattle.receipts.specs.Said.{receipt_or_fault}
use Rattle.leg_receipts.specs.Places.{Place}

-- by what was read as one: what comes of comparing it, or that it is none
abbrev pub ByRead : PlanData → InputData → List (List ℕ) → Result Receipt ReceiptFault → Option (List ℕ) → Result (Unit {0}) ReceiptFault → Type 0
ByRead p i cut (Ok receipt) names result = ChecksReceipt p i cut receipt names result
ByRead p i cut (Err fault) names result = result ≡ Err fault

-- or memory ran out
abbrev pub ByReceipt : PlanData → InputData → List (List ℕ) → Result Receipt ReceiptFault → Option (List ℕ) → Result (Unit {0}) ReceiptFault → Type 0
ByReceipt p i cut said names result = (result ≡ Err Memory) ⊎ ByRead p i cut said names result

-- by the bytes of one, at a place
abbrev pub IsBySince : List ℕ → Option (List ℕ) → Place → Result (Unit {0}) ReceiptFault → Type 0
IsBySince since names place result = ByReceipt place.plan place.input (offsets_of place.start) (receipt_or_fault place.plan.sources since) names result
