use Rattle.std.proofs.Common.{subst, sym}
use Rattle.savepoint_codec.specs.Writing.{IsShort}
use Rattle.savepoint_codec.proofs.Spelled.{short_contents}
use Rattle.savepoint_codec.proofs.encoding.encode.Goals as goal

pub put_contents-requires : goal.put_contents-requires
put_contents-requires c = subst IsShort (sym c.contents.ensures.says) (short_contents c.args.savepoint.now c.contents.ensures.sound)
