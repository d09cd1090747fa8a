use Rattle.std.proofs.Common.{◌≡◌, map, ◌++◌, subst, rules}
use Rattle.std.specs.Io.KnownBytes.{Appends}
use Rattle.std.proofs.KnownBytes.{Appends-trans}
use Rattle.entry_texts.specs.Partitions.{text_of}
use Rattle.import_copies.specs.Streams.{stream_at}
use Rattle.import_copies.proofs.partition.write_text.Goals as goal

pub returns-clause-writes : goal.returns-clause-writes
returns-clause-writes g c rows start h =
    let text = text_of c.args.partition.now in
    let old = stream_at (map g.W.Write.contents c.args.outs.now) 0 in
    let new = stream_at (map g.W.Write.contents c.write_at.new.outs) 0 in
    let same : c.as_bytes.result.now ≡ text = search rules in
    (h.0 ++ text, c.clear_text.ensures.taken rows h.0 h.1, Appends-trans start old new h.0 text h.2 (subst (Appends old new) same c.in_ok-write_at.ensures.here))
