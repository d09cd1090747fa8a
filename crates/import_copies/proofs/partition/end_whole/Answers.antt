use Rattle.std.proofs.Common.{refl, map}
use Rattle.entry_texts.specs.Partitions.{rule_of}
use Rattle.import_copies.specs.Streams.{stream_at}
use Rattle.import_copies.proofs.Writing.{on_ok_map, whole}
use Rattle.import_copies.proofs.partition.end_whole.Goals as goal

pub returns : goal.returns
returns g c rows start h =
    let old = c.args.partition.now in
    let ended = c.in_ok-end.ensures.ends rows h.0 h.1 in
    let now = stream_at (map g.W.Write.contents c.args.outs.now) 0 in
    let end = stream_at (map g.W.Write.contents c.write_text.new.outs) 0 in
    on_ok_map c.write_text.result (λ last. whole (rule_of old) start now end rows h.0 old c.end.new.self h.1 h.2 refl c.end.ensures.rule ended last) c.write_text.ensures.appends
