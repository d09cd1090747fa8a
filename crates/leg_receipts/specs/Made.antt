-- The receipt that a leg leaves.
use Rattle.std.specs.Prelude.{◌+◌, ℕ, List, Bool, true, false, option_map}
use Rattle.plan_model.specs.PlanData.{PlanData}
use Rattle.stream_model.specs.InputData.{InputData}
use Rattle.stream_model.specs.Watermarks.{full_cut}
use Rattle.redistribute.specs.StartData.{offsets_of}
use Rattle.receipts.specs.Made.{receipt_of}
use Rattle.receipts.specs.ReceiptText.{receipt_text}
use Rattle.leg_receipts.specs.Places.{Place}
use Rattle.leg_receipts.specs.declared.making.Told.{Told}

-- the receipt of a leg that is the last of so many, and has come to a cut
abbrev pub told_at : PlanData → InputData → List (List ℕ) → ℕ → Told → List ℕ
told_at p i cut legs told = receipt_text told.version.now p.sources (receipt_of p i cut legs told.rows.now (option_map (λ bytes. bytes.now) told.names))

-- of one that has left a savepoint at a place, which has its number; or that has gone from there to the end of the
-- input
abbrev pub told_of : Bool → Told → Place → List ℕ
told_of true told place = told_at place.plan place.input (offsets_of place.start) place.start.number told
told_of false told place = told_at place.plan place.input (full_cut place.input.sources) (place.start.number + 1) told
