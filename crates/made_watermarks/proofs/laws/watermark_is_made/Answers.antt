use Rattle.made_watermarks.proofs.Made as made
use Rattle.made_watermarks.proofs.laws.watermark_is_made.Goals as goal

pub returns : goal.returns
returns c = made.watermark_is_made
