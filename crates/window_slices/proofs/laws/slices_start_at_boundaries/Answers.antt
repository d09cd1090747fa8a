use Rattle.window_slices.proofs.Boundaries.{slices_start_at_boundaries}
use Rattle.window_slices.proofs.laws.slices_start_at_boundaries.Goals as goal

pub returns : goal.returns
returns c = slices_start_at_boundaries
