use Rattle.std.proofs.Common.{rules, ◌≡◌, ◌+◌, ◌++◌, Some, length, map, slice_get, string_bytes, take, sym, ap, subst, ◌∙◌}
use Rattle.std.proofs.lemmas.Option.{slice_get-get_or}
use Rattle.row_lines.specs.Rows.{numbers_in}
use Rattle.csv.specs.Writing.{default_writer, field_text}
use Rattle.row_tables.specs.Cells.{Shows}
use Rattle.row_export.specs.Objects.{comma_at}
use Rattle.row_export.specs.Records.{HasFields}
use Rattle.row_export.proofs.Records.{field_more}
use Rattle.row_export.proofs.record.put_fields.Goals as goal

pub loop-place-preserved : goal.loop-place-preserved
loop-place-preserved c =
    let kinds = c.args.kinds.now in
    let names = map string_bytes c.args.names.now in
    let numbers = numbers_in c.args.row.now in
    let before = c.args.line.now.items in
    let line = c.loop-place.line.items in
    let place = c.loop-place.place in
    let kind = c.index-kinds-place.result in
    let number = c.in-Some.number in
    let at_kind : slice_get kinds place ≡ Some kind = slice_get-get_or kinds place kind c.loop-place-test.true ∙ ap (λ x. Some x) (sym c.index-kinds-place.is) in
    let at_number : slice_get numbers place ≡ Some number = search rules in
    let member = c.in-Ok.ensures in
    let shown : Shows kind names number member.cell = search rules in
    let next : c.put_number.new.line.items ≡ line ++ (comma_at place ++ field_text default_writer member.cell) = member.text in
    subst (HasFields (take (place + 1) kinds) names (take (place + 1) numbers) before) (sym next) (field_more kinds names numbers place kind number member.cell before line at_kind at_number c.loop-place.invariant shown)
