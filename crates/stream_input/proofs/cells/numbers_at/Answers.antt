use Rattle.std.proofs.Common.{arith, ℕ, ℤ, List, ◌++◌, ap, ◌∙◌}
use Rattle.columns.proofs.Facts.{flat_map-more}
use Rattle.stream_input.specs.Fit.{column_in_cells}
use Rattle.stream_input.proofs.cells.numbers_at.Goals as goal

pub loop-column-preserved : goal.loop-column-preserved
loop-column-preserved c =
    let i = c.loop-column.invariant in
    let column : ℕ → List ℤ = column_in_cells c.args.width c.args.count c.args.cells.now in
    record {
      items = c.put_column.ensures.put ∙ ap (λ (numbers : List ℤ). numbers ++ column c.loop-column.column) i.items ∙ flat_map-more column c.loop-column.column;
      len = grind (arith, i.len, c.put_column.ensures.len);
      room = rw c.put_column.ensures.capacity i.room;
    }
