use Rattle.byte_fields.proofs.Exact.{one_value}
use Rattle.savepoint_codec.specs.Layout.{unindexed_format}
use Rattle.savepoint_codec.proofs.LayoutExact.{unindexed_exact}
use Rattle.savepoint_codec.proofs.laws.one_content.Goals as goal

pub returns : goal.returns
returns c = one_value unindexed_format unindexed_exact
