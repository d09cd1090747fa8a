use Rattle.stream_model.proofs.LateRecords.{watermark_goes_on}
use Rattle.stream_model.proofs.laws.watermark_goes_on.Goals as goal

pub returns : goal.returns
returns c = watermark_goes_on
