use Rattle.std.proofs.Common.{◌≡◌, ◌+◌, ◌-◌, ◌^◌, min, length, take}
use Rattle.text_warnings.specs.Plain.{all_entries}
use Rattle.text_warnings.proofs.plain.names_in.Given as goal

abbrev pub invariant-loop-source : goal.invariant-loop-source
invariant-loop-source l = l.total ≡ min (length l.sources + length (all_entries (take l.source-index l.sources))) (2 ^ 64 - 1)
