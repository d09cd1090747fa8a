use Rattle.std.proofs.Common.{length}
use Rattle.object_lines.proofs.member.+path_value.Given as goal

abbrev pub decreases-path_value : goal.decreases-path_value
decreases-path_value l = length l.name.now
