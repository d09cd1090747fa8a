-- The line of each fault of a receipt, and the status that the program ends with.
use Rattle.std.specs.Prelude.{ℕ, List, ◌++◌, codes, decimal, Bool, true, false}
use Rattle.json_parts.specs.declared.error.PartError.{PartError}
use Rattle.json_parts.specs.declared.error.PartError.TheVariants as part
use Rattle.receipts.specs.declared.fault.ReceiptFault.{ReceiptFault}
use Rattle.receipts.specs.declared.fault.ReceiptFault.TheVariants.{Form, Plan, Cut, Entries, Names, Memory}

-- a source and a partition of it
abbrev pub place_text : List ℕ → ℕ → List ℕ
place_text uid partition = uid ++ (codes " " ++ decimal partition)

abbrev pub receipt_line : ReceiptFault → List ℕ
receipt_line Form = codes "R1 Form"
receipt_line Plan = codes "R2 Plan"
receipt_line (Cut uid partition) = codes "R3 Cut " ++ place_text uid partition
receipt_line (Entries uid partition) = codes "R4 Entries " ++ place_text uid partition
receipt_line Names = codes "R5 Names"
receipt_line Memory = codes "memory"

-- 4 for want of memory, and else 3
abbrev pub receipt_status : ReceiptFault → ℕ
receipt_status Memory = 4
receipt_status fault = 3

-- a fault that says nothing of the receipt
abbrev pub is_memory : ReceiptFault → Bool
is_memory Memory = true
is_memory fault = false

-- the fault of a text of which a part is not as it has to be
abbrev pub fault_of_part : PartError → ReceiptFault
fault_of_part part.Form = Form
fault_of_part part.Memory = Memory
