use Rattle.row_export.proofs.Plain.{plain_byte}
use Rattle.row_export.proofs.values.is_plain_byte.Goals as goal

pub returns : goal.returns
returns c = λ h. plain_byte c.args.byte c.if-byte-lt32.false c.if-byte-eq34.false h
