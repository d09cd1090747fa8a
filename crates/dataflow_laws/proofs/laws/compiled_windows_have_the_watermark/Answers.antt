use Rattle.dataflow_laws.proofs.Moments.{compiled_windows_have_the_watermark}
use Rattle.dataflow_laws.proofs.laws.compiled_windows_have_the_watermark.Goals as goal

pub returns : goal.returns
returns c = compiled_windows_have_the_watermark
