use Rattle.std.proofs.Common.{◌≡◌, ◌++◌, take}
use Rattle.std.specs.Prelude.{string_bytes}
use Rattle.std.specs.List.{flat_map, enumerate_from}
use Rattle.job_texts.specs.ShowText.{partition_line}
use Rattle.job_texts.proofs.show_text.write_partitions.Given as goal

abbrev pub invariant-loop-i : goal.invariant-loop-i
invariant-loop-i l = string_bytes l.text ≡ string_bytes l.fn.text ++ flat_map (partition_line l.uid) (take l.i (enumerate_from 0 l.partitions))
