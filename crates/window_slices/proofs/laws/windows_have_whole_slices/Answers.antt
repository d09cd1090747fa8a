use Rattle.window_slices.proofs.Boundaries.{windows_have_whole_slices}
use Rattle.window_slices.proofs.laws.windows_have_whole_slices.Goals as goal

pub returns : goal.returns
returns c = windows_have_whole_slices
