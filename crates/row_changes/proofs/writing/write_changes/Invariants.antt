use Rattle.std.proofs.Common.{string_bytes}
use Rattle.row_changes.proofs.Passing.{Continues}
use Rattle.row_changes.proofs.writing.write_changes.Given as goal

abbrev pub invariant-loop : goal.invariant-loop
invariant-loop g l = Continues g.R.Read.remaining g.S.Read.remaining (g.R.Read.remaining l.fn.old) (g.S.Read.remaining l.fn.new) (g.W.Write.contents l.fn.out) l.pair (g.W.Write.contents l.out) (string_bytes l.text)
