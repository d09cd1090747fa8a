use Rattle.std.proofs.Common.{◌≡◌, length, replicate, take}
use Rattle.std.specs.List.{All, flat_map, fold}
use Rattle.gather.specs.Parts.{panes_in}
use Rattle.gather.specs.Buckets.{HaveWidth, IsTyped, no_entries, with_part}
use Rattle.gather.proofs.buckets.all_buckets.Given as goal

abbrev pub invariant-loop-part : goal.invariant-loop-part
invariant-loop-part l = record {
  says : l.buckets.items ≡ fold (with_part l.max) (replicate l.max (no_entries l.width)) (flat_map panes_in (take l.part-index l.parts));
  typed : All IsTyped (flat_map panes_in (take l.part-index l.parts));
  counted : length l.buckets.items ≡ l.max;
  widths : HaveWidth l.width l.buckets.items;
}
