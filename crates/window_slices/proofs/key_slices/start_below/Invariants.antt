use Rattle.std.proofs.Common.{◌≡◌, ◌<ℤ◌, true, take}
use Rattle.std.specs.Prelude.{IfSome}
use Rattle.std.specs.List.{All}
use Rattle.window_slices.specs.declared.key_slices.Slice.{Slice}
use Rattle.window_slices.specs.KeySlices.{has_start, IsUpTo}
use Rattle.window_slices.proofs.key_slices.start_below.Given as goal

abbrev pub invariant-loop-slice : goal.invariant-loop-slice
invariant-loop-slice l = record {
  there : IfSome l.found (λ b. (b <ℤ l.start) × (has_start b l.slices ≡ true));
  greatest : All (λ (x : Slice). x.start <ℤ l.start → IsUpTo l.found x.start) (take l.slice-index l.slices);
}
