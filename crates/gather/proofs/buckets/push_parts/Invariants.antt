use Rattle.std.proofs.Common.{◌≡◌, ℕ, take}
use Rattle.std.specs.List.{All, fold}
use Rattle.gather.specs.Buckets.{HaveWidth, IsTyped, with_part}
use Rattle.gather.proofs.buckets.push_parts.Given as goal

abbrev pub invariant-loop-i : goal.invariant-loop-i
invariant-loop-i l = record {
  says : l.buckets ≡ fold (with_part l.max) l.fn.buckets (take l.i l.parts);
  typed : All IsTyped (take l.i l.parts);
  widths : (n : ℕ) → HaveWidth n l.fn.buckets → HaveWidth n l.buckets;
}
