use Rattle.std.proofs.Common.{length, map, ◌∙◌}
use Rattle.std.proofs.lemmas.List.{length-map}
use Rattle.columns.proofs.Facts.{by_columns_whole, table_is}
use Rattle.input_texts.specs.Said.{record_of}
use Rattle.stream_input.proofs.Tables.{even_records}
use Rattle.stream_input.proofs.building.batch_of.Goals as goal

pub from_numbers-requires : goal.from_numbers-requires
from_numbers-requires c =
    let rows = c.args.rows.now in
    record {
      sized = c.requires.width;
      whole = by_columns_whole c.in_ok-numbers.numbers.items (map record_of rows) c.args.columns (length rows) c.in_ok-numbers.ensures (length-map rows record_of);
      few = c.requires.few;
    }

pub returns : goal.returns
returns c =
    let rows = c.args.rows.now in
    c.from_numbers.ensures
    ∙ table_is c.in_ok-numbers.numbers.items (map record_of rows) c.args.columns (length rows) c.in_ok-numbers.ensures (length-map rows record_of) (even_records rows c.args.columns c.requires.wide)
