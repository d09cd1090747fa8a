use Rattle.window_slices.proofs.Totals.{windows_are_their_slices}
use Rattle.window_slices.proofs.laws.windows_are_their_slices.Goals as goal

pub returns : goal.returns
returns c = windows_are_their_slices c.aggregates_ignore_order-order.ensures c.aggregates_merge-merge.ensures
