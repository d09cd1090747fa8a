use Rattle.stream_model.proofs.Greatest.{watermark_is_greatest}
use Rattle.stream_model.proofs.laws.watermark_is_greatest.Goals as goal

pub returns : goal.returns
returns c = watermark_is_greatest
