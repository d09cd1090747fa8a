use Rattle.std.proofs.Common.{◌≡◌, ◌++◌, take}
use Rattle.std.specs.Prelude.{string_bytes}
use Rattle.std.specs.List.{flat_map}
use Rattle.job_texts.specs.ShowText.{group_lines}
use Rattle.job_texts.proofs.show_text.write_groups.Given as goal

abbrev pub invariant-loop-group : goal.invariant-loop-group
invariant-loop-group l = string_bytes l.text ≡ string_bytes l.fn.text ++ flat_map group_lines (take l.group-index l.groups)
