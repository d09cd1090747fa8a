use Rattle.std.proofs.Common.{◌≡◌, Some, ap, slice_get, subst, sym, take, ◌+◌, ◌∙◌}
use Rattle.std.proofs.lemmas.Option.{slice_get-get_or}
use Rattle.imports.specs.Placing.{AreFields}
use Rattle.imports.proofs.Stands.{fields_more}
use Rattle.imports.proofs.kinds.fields_of.Goals as goal

pub loop-column-preserved : goal.loop-column-preserved
loop-column-preserved c =
    let columns = c.args.columns.now in
    let i = c.loop-column.column-index in
    let column = c.column-item.result in
    let at : slice_get columns i ≡ Some column = slice_get-get_or columns i column c.loop-column-test.true ∙ ap (λ found. Some found) (sym c.column-item.is) in
    subst (AreFields (take (i + 1) columns)) (sym c.in_ok-push.ensures.items) (fields_more columns c.loop-column.fields.items i column c.in_ok-new.field-0 c.loop-column.invariant at c.in_ok-new.ensures)
