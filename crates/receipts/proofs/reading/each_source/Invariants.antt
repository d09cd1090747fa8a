use Rattle.std.proofs.Common.{◌≡◌, drop}
use Rattle.serde_json.specs.View.{view}
use Rattle.receipts.specs.Said.{each_source}
use Rattle.json_parts.proofs.Facts.{with_front}
use Rattle.receipts.proofs.reading.each_source.Given as goal

-- what was read before, with what is still read, is all that is read
abbrev pub invariant-loop-source : goal.invariant-loop-source
invariant-loop-source l = with_front l.read.items (each_source (view l.object) (drop l.source-index l.sources)) ≡ each_source (view l.object) l.sources
