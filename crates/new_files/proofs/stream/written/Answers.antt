use Rattle.std.proofs.Common.{rules}
use Rattle.new_files.proofs.stream.written.Goals as goal

pub returns : goal.returns
returns g c = (c.args.out, search rules)
