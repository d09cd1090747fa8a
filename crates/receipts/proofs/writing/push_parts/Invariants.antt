use Rattle.std.proofs.Common.{◌≡◌, ◌++◌, map, take, string_bytes}
use Rattle.std.specs.List.{join_with_byte}
use Rattle.receipts.specs.ReceiptText.{counted_text}
use Rattle.receipts.proofs.writing.push_parts.Given as goal

abbrev pub invariant-loop-place : goal.invariant-loop-place
invariant-loop-place l = string_bytes l.text ≡ string_bytes l.fn.text ++ join_with_byte 44 (map counted_text (take l.place l.parts))
