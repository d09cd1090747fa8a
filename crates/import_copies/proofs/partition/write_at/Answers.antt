use Rattle.std.proofs.Common.{◌≡◌, map, get_or, set, None, sym, subst, arith}
use Rattle.std.specs.Io.KnownBytes.{Appends}
use Rattle.std.proofs.lemmas.List.{get_or-map}
use Rattle.import_copies.specs.Streams.{stream_at}
use Rattle.import_copies.proofs.AtPlace.{at_place, elsewhere}
use Rattle.import_copies.proofs.partition.write_at.Goals as goal

pub returns-in-Ok-clause-here : goal.returns-in-Ok-clause-here
returns-in-Ok-clause-here g c =
    let contents = g.W.Write.contents in
    let outs = c.args.outs.now in
    let place = c.args.place in
    let old = c.index-outs-place.result in
    let new = c.write_all.new.self in
    let before : stream_at (map contents outs) place ≡ contents (get_or outs place old) = get_or-map contents outs place old None (omega arith) in
    let after : stream_at (map contents (set outs place new)) place ≡ contents new = at_place contents outs place new (omega arith) in
    subst (λ a. Appends a (stream_at (map contents (set outs place new)) place) c.args.bytes.now) (sym before)
    (subst (λ b. Appends (contents (get_or outs place old)) b c.args.bytes.now) (sym after) c.in-Ok.ensures.bytes)

pub returns-in-Ok-clause-others : goal.returns-in-Ok-clause-others
returns-in-Ok-clause-others g c i other = elsewhere g.W.Write.contents c.args.outs.now c.args.place c.write_all.new.self i other
