use Rattle.std.proofs.Common.{◌≤◌, vec_len}
use Rattle.std.specs.Io.KnownBytes.{Consumes}
use Rattle.job_texts.specs.declared.readers.TheConstants.{MOST_BYTES}
use Rattle.job_texts.proofs.readers.read_all.Given as goal

abbrev pub invariant-loop : goal.invariant-loop
invariant-loop g l = (1 ≤ vec_len l.piece) × (vec_len l.bytes ≤ MOST_BYTES) × Consumes (g.R.Read.remaining l.fn.reader) (g.R.Read.remaining l.reader) l.bytes.items
