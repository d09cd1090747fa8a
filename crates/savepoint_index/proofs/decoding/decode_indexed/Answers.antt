use Rattle.std.proofs.Common.{arith}
use Rattle.byte_fields.proofs.Exact.{whole_takes}
use Rattle.savepoint_index.specs.Layout.{indexed_format}
use Rattle.savepoint_index.proofs.Fits.{is_savepoint}
use Rattle.savepoint_index.proofs.IndexExact.{indexed_exact}
use Rattle.savepoint_index.proofs.decoding.decode_indexed.Goals as goal

pub from_contents-requires : goal.from_contents-requires
from_contents-requires c = is_savepoint c.in_ok-contents.contents (whole_takes indexed_format indexed_exact c.args.bytes.now c.in_ok-contents.contents (λ i. omega (arith, c.type_inv.bytes i)) c.in_ok-contents.ensures).0
