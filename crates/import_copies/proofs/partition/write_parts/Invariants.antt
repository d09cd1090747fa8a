use Rattle.std.proofs.Common.{◌≡◌, ◌<◌, ◌≤◌, ℕ, map}
use Rattle.std.specs.Io.KnownBytes.{Appends}
use Rattle.dealt_texts.specs.Steps.{text_at}
use Rattle.dealt_texts.specs.Texts.{texts_of}
use Rattle.import_copies.specs.Streams.{stream_at}
use Rattle.import_copies.proofs.partition.write_parts.Given as goal

abbrev pub invariant-loop-place : goal.invariant-loop-place
invariant-loop-place g l = record {
  done : (i : ℕ) → i < l.place → Appends (stream_at (map g.W.Write.contents l.fn.outs) i) (stream_at (map g.W.Write.contents l.outs) i) (text_at (texts_of l.parts) i).text;
  rest : (i : ℕ) → l.place ≤ i → stream_at (map g.W.Write.contents l.outs) i ≡ stream_at (map g.W.Write.contents l.fn.outs) i;
}
