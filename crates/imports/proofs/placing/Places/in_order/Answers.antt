use Rattle.std.proofs.Common.{ap, map, ◌∙◌}
use Rattle.std.specs.List.{range_with_len}
use Rattle.imports.specs.Picks.{picked}
use Rattle.imports.specs.Rows.{column_text}
use Rattle.imports.proofs.Texts.{own_places}
use Rattle.imports.proofs.placing.Places.in_order.Goals as goal

pub returns-clause-places : goal.returns-clause-places
returns-clause-places c row =
    let count = c.args.count in
    ap (λ places. map (column_text places (picked c.new.result.items row)) (range_with_len 0 count)) c.in_ok-first_places.ensures.places
    ∙ ap (λ picks. map (column_text (range_with_len 0 count) (picked picks row)) (range_with_len 0 count)) c.new.ensures.items
    ∙ own_places row count
