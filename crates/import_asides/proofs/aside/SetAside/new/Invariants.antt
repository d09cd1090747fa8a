use Rattle.std.proofs.Common.{[], get_or, map}
use Rattle.std.specs.List.{filter, range_with_len}
use Rattle.import_asides.specs.Apart.{field_names, is_first}
use Rattle.import_asides.specs.Written.{HasRecords}
use Rattle.import_asides.proofs.aside.SetAside.new.Given as goal

abbrev pub invariant-loop-i : goal.invariant-loop-i
invariant-loop-i g l = HasRecords g.W.Write.contents (g.W.Write.contents l.fn.out) []
    (map (λ place. get_or (field_names l.columns) place []) (filter (is_first (field_names l.columns)) (range_with_len 0 l.i))) l.writer
