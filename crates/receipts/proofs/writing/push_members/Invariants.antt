use Rattle.std.proofs.Common.{◌≡◌, ◌++◌, map, take, zip, string_bytes}
use Rattle.std.specs.List.{join_with_byte}
use Rattle.receipts.specs.ReceiptText.{source_member}
use Rattle.receipts.proofs.writing.push_members.Given as goal

abbrev pub invariant-loop-place : goal.invariant-loop-place
invariant-loop-place l = string_bytes l.text ≡ string_bytes l.fn.text ++ join_with_byte 44 (map source_member (take l.place (zip l.sources l.read)))
