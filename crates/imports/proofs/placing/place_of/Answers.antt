use Rattle.std.proofs.Common.{ℕ, ap, bytes_eq, sym, ◌∙◌}
use Rattle.csv.specs.Records.{fields_of}
use Rattle.std.specs.List.{filter, range_with_len}
use Rattle.imports.specs.Picks.{text_at}
use Rattle.imports.specs.Placing.{place_from, place_with}
use Rattle.imports.proofs.Stands.{found_more}
use Rattle.imports.proofs.placing.place_of.Goals as goal

pub loop-place-preserved : goal.loop-place-preserved
loop-place-preserved c =
    let place = c.loop-place.place in
    let test = λ (place : ℕ). bytes_eq (text_at (fields_of c.args.header.now) place) c.args.name.now in
    c.with-found.ensures
    ∙ ap (λ found. place_with found place c.stands_at.result) c.loop-place.invariant
    ∙ ap (place_with (place_from (filter test (range_with_len 0 place))) place) c.stands_at.ensures
    ∙ sym (found_more test place)
