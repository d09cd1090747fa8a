use Rattle.std.proofs.Common.{◌≡◌, length, Vec, ℤ, Global, ◌∙◌}
use Rattle.std.proofs.lemmas.List.{length-map}
use Rattle.std.proofs.lemmas.List.Elements.{All-map}
use Rattle.plain_data.specs.Record.{Record}
use Rattle.columns.specs.Table.{rows_in}
use Rattle.columns.proofs.Columns.{by_columns_whole, table_is}
use Rattle.columns.proofs.rows.batch_of.Goals as goal

pub from_numbers-requires : goal.from_numbers-requires
from_numbers-requires c = record {
  sized = c.requires.sized;
  whole =
      let rows = c.args.rows.now in
      by_columns_whole c.in_ok-numbers.numbers.items (rows_in rows) c.args.width (length rows) c.in_ok-numbers.ensures (length-map rows (λ (row : Vec ℤ Global). row.items));
  few = c.requires.few;
}

pub returns : goal.returns
returns c =
    let rows = c.args.rows.now in
    c.from_numbers.ensures
    ∙ table_is c.in_ok-numbers.numbers.items (rows_in rows) c.args.width (length rows) c.in_ok-numbers.ensures (length-map rows (λ (row : Vec ℤ Global). row.items))
    (All-map (λ (row : Record). length row ≡ c.args.width) (λ (row : Vec ℤ Global). row.items) rows c.requires.even)
