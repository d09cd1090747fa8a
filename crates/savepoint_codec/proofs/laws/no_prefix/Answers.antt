use Rattle.byte_fields.proofs.Exact.{no_front}
use Rattle.savepoint_codec.specs.Layout.{unindexed_format}
use Rattle.savepoint_codec.proofs.LayoutExact.{unindexed_exact}
use Rattle.savepoint_codec.proofs.laws.no_prefix.Goals as goal

pub returns : goal.returns
returns c = no_front unindexed_format unindexed_exact
