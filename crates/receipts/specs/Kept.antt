-- A leg that goes on by the receipt of the one before.
use Rattle.std.specs.Prelude.{◌≡◌, ◌⊎◌, ◌++◌, ℕ, List, Option, option_map, Result, Ok, Err}
use Rattle.input_changes.specs.Agreement.{HaveSameEntries}
use Rattle.plan_model.specs.PlanData.{PlanData}
use Rattle.stream_model.specs.InputData.{InputData}
use Rattle.receipts.specs.Checked.{ChecksReceipt}
use Rattle.receipts.specs.Made.{receipt_of}
use Rattle.receipts.specs.Read.{read_before}
use Rattle.receipts.specs.declared.fault.ReceiptFault.{ReceiptFault}
use Rattle.receipts.specs.declared.fault.ReceiptFault.TheVariants.{Memory}
use Rattle.receipts.specs.declared.receipt.Receipt.{Receipt}

-- by the receipt of a leg of the same plan, over an input with the same entries before the cut, and with names behind
-- those that there were, none is refused
abbrev pub SameIsAccepted : Type 0
SameIsAccepted = (p : PlanData) → (old new : InputData) → (cut : List (List ℕ)) → (legs : ℕ) → (rows : List ℕ) → (names : Option (List ℕ)) → (more : List ℕ) → (result : Result (Unit {0}) ReceiptFault)
    → HaveSameEntries old new cut → ChecksReceipt p new cut (receipt_of p old cut legs rows names) (option_map (λ bytes. bytes ++ more) names) result
    → (result ≡ Ok tt) ⊎ (result ≡ Err Memory)

-- and where one is accepted, what was read before the cut is what the receipt tells of
abbrev pub AcceptedIsSame : Type 0
AcceptedIsSame = (p : PlanData) → (i : InputData) → (cut : List (List ℕ)) → (r : Receipt) → (names : Option (List ℕ)) → ChecksReceipt p i cut r names (Ok tt) → r.sources ≡ read_before i.sources cut
