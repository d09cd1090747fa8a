-- A receipt is read as it was written.
use Rattle.std.specs.Prelude.{◌≡◌, ◌^◌, ◌<◌, ◌&&◌, ◌==◌, ℕ, nat_le, nat_lt, Bool, true, not, List, length, map, Some, IfSome}
use Rattle.std.specs.List.{All, list_all}
use Rattle.hex.specs.Hex.{IsBytes}
use Rattle.plan_model.specs.PlanData.{PlanData, IsPlan}
use Rattle.receipts.specs.declared.digests.Counted.{Counted}
use Rattle.receipts.specs.declared.receipt.Receipt.{Receipt}
use Rattle.receipts.specs.ReceiptText.{receipt_text}
use Rattle.receipts.specs.Said.{receipt_of_bytes}

-- a printable character of ASCII that JSON does not escape
abbrev pub is_plain : ℕ → Bool
is_plain b = nat_le 32 b && (nat_lt b 127 && (not (b == 34) && not (b == 92)))

-- a count of 64 bits, and a digest of 32 bytes
pub record IsCounted (c : Counted) : Type 0 where
  pub count : c.count < 2 ^ 64
  pub long : length c.digest ≡ 32
  pub bytes : IsBytes c.digest

-- a receipt of a plan
pub record IsReceipt (p : PlanData) (r : Receipt) : Type 0 where
  pub legs : r.legs < 2 ^ 64
  pub plan : IsCounted r.plan
  pub sources : All (λ partitions. All IsCounted partitions) r.sources
  pub shape : map (λ partitions. length partitions) r.sources ≡ map (λ s. s.partitions) p.sources
  pub records : r.records < 2 ^ 64
  pub rows : IsCounted r.rows
  pub names : IfSome r.names IsCounted

abbrev pub WhatIsWrittenIsRead : Type 0
WhatIsWrittenIsRead = (version : List ℕ) → (p : PlanData) → (r : Receipt) → list_all is_plain version ≡ true → IsPlan p → IsReceipt p r → receipt_of_bytes p.sources (receipt_text version p.sources r) ≡ Some r
