use Rattle.std.proofs.Common.{◌≡◌, ◌/◌, true, length, refl, sym, ap, ◌∙◌, arith}
use Rattle.std.specs.List.{list_all}
use Rattle.plain_data.specs.Record.{column_of}
use Rattle.columns.specs.Table.{Table}
use Rattle.plan_model.specs.Windows.{is_time}
use Rattle.stream_input.proofs.FitRows.{whole_columns, fit_batch}
use Rattle.stream_input.proofs.cells.batch_at.Goals as goal

pub from_numbers-batch-requires : goal.from_numbers-batch-requires
from_numbers-batch-requires c = record {
  sized = c.requires.width;
  whole = whole_columns c.args.width (length c.args.cells.now / c.args.width) c.args.cells.now c.in_ok-numbers.numbers.items c.in_ok-numbers.ensures;
  few = omega arith;
}

pub column-requires : goal.column-requires
column-requires c = omega (arith, ap (λ (t : Table). t.width) c.from_numbers-batch.ensures)

pub returns : goal.returns
returns c =
    let timely : list_all is_time (column_of c.args.time c.from_numbers-batch.result.rows) ≡ true =
    sym (ap (list_all is_time) c.column.ensures) ∙ sym c.are_times.ensures ∙ c.if-not-are_times.false in
    fit_batch c.args.width c.args.time (length c.args.cells.now / c.args.width) c.args.cells.now c.in_ok-numbers.numbers.items c.from_numbers-batch.result refl c.requires.width.some (omega arith) (omega arith)
    c.in_ok-numbers.ensures c.from_numbers-batch.ensures timely
