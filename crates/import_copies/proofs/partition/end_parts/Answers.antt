use Rattle.std.proofs.Common.{map}
use Rattle.import_copies.proofs.Writing.{on_ok_map, all_parts}
use Rattle.import_copies.proofs.partition.end_parts.Goals as goal

pub returns : goal.returns
returns g c rows start h =
    let now = map g.W.Write.contents c.args.outs.now in
    let end = map g.W.Write.contents c.write_parts.new.outs in
    on_ok_map c.write_parts.result
    (λ written. all_parts rows start now end c.args.parts.now c.end.new.self (c.in_ok-end.ensures.ends rows) c.end.ensures.rule c.end.ensures.dealing written h) c.write_parts.ensures
