use Rattle.std.proofs.Common.{◌≡◌, ◌<◌, ◌≤◌, [], length, map, get_or, ap, subst, sym, ◌∙◌}
use Rattle.std.specs.List.{All, range_with_len}
use Rattle.columns.specs.Parts.{kept, with_rows}
use Rattle.columns.proofs.Kept.{places_below, places_few, kept_at_places}
use Rattle.columns.proofs.Batch.keep.Goals as goal

pub rows_at-requires-clause-inside : goal.rows_at-requires-clause-inside
rows_at-requires-clause-inside c =
    let n = length c.args.self.now.rows in
    let is : c.deref.result.now ≡ kept c.args.mask.now (range_with_len 0 n) = c.deref.ensures.value ∙ c.in_ok-places.ensures ∙ ap (λ m. kept c.args.mask.now (range_with_len 0 m)) c.requires in
    subst (All (λ place. place < n)) (sym is) (places_below c.args.mask.now n)

pub rows_at-requires-clause-few : goal.rows_at-requires-clause-few
rows_at-requires-clause-few c =
    let n = length c.args.self.now.rows in
    let is : c.deref.result.now ≡ kept c.args.mask.now (range_with_len 0 n) = c.deref.ensures.value ∙ c.in_ok-places.ensures ∙ ap (λ m. kept c.args.mask.now (range_with_len 0 m)) c.requires in
    subst (λ places. length places ≤ n) (sym is) (places_few c.args.mask.now n)

pub returns-clause-kept : goal.returns-clause-kept
returns-clause-kept c =
    let rows = c.args.self.now.rows in
    let is : c.deref.result.now ≡ kept c.args.mask.now (range_with_len 0 (length rows)) = c.deref.ensures.value ∙ c.in_ok-places.ensures ∙ ap (λ m. kept c.args.mask.now (range_with_len 0 m)) c.requires in
    c.in_ok-rows_at.ensures ∙ ap (with_rows c.args.self.now) (ap (map (λ place. get_or rows place [])) is ∙ kept_at_places c.args.mask.now rows [])
