use Rattle.std.proofs.Common.{◌≡◌, ℤ, pos, List, [], ◌++◌, map, get_or, length, sym, subst, ◌∙◌, ap, arith}
use Rattle.std.specs.List.{All}
use Rattle.std.proofs.lemmas.List.{length-map}
use Rattle.plain_data.specs.Record.{Record, column_of}
use Rattle.columns.specs.Table.{Table, by_columns}
use Rattle.columns.specs.Parts.{with_rows}
use Rattle.columns.proofs.Columns.{length-rows_of, rows_even, by_columns-more, by_columns_whole, table_is}
use Rattle.columns.proofs.Picked.{rows_at, column_of-rows_at, rows_at_even}
use Rattle.columns.proofs.Batch.rows_at.Goals as goal

pub loop-c-preserved : goal.loop-c-preserved
loop-c-preserved c =
    let places = c.args.places.now in
    let rows = c.args.self.now.rows in
    let k = c.loop-c.c in
    let column : map (λ place. get_or c.column.result.now place (pos 0)) places ≡ column_of k (rows_at places rows) =
    ap (λ (numbers : List ℤ). map (λ place. get_or numbers place (pos 0)) places) c.column.ensures ∙ column_of-rows_at places rows k c.requires.inside in
    c.in_ok-put_numbers.ensures ∙ (λ o. c.loop-c.invariant o ++ column o) ∙ by_columns-more k (rows_at places rows)

pub from_numbers-requires : goal.from_numbers-requires
from_numbers-requires c =
    let places = c.args.places.now in
    let rows = c.args.self.now.rows in
    let all : c.loop-c.c ≡ c.self.inside.width = omega arith in
    let are : c.loop-c.numbers.items ≡ by_columns c.self.inside.width (rows_at places rows) = c.loop-c.invariant ∙ ap (λ n. by_columns n (rows_at places rows)) all in
    record {
      sized = c.self.invariant.sized;
      whole = by_columns_whole c.loop-c.numbers.items (rows_at places rows) c.self.inside.width (length places) are (length-map places (λ place. get_or rows place []));
      few =
          let many : length rows ≡ c.self.inside.count = sym (ap (λ (t : Table). length t.rows) c.self.view_is) ∙ length-rows_of _ _ in
          omega (arith, c.requires.few, c.self.invariant.few);
    }

pub returns : goal.returns
returns c =
    let places = c.args.places.now in
    let rows = c.args.self.now.rows in
    let width = c.self.inside.width in
    let all : c.loop-c.c ≡ width = omega arith in
    let are : c.loop-c.numbers.items ≡ by_columns width (rows_at places rows) = c.loop-c.invariant ∙ ap (λ n. by_columns n (rows_at places rows)) all in
    let even : All (λ row. length row ≡ width) rows =
    subst (All (λ (row : Record). length row ≡ width)) (ap (λ (t : Table). t.rows) c.self.view_is) (rows_even c.self.inside.numbers.items width c.self.inside.count) in
    c.from_numbers.ensures
    ∙ table_is c.loop-c.numbers.items (rows_at places rows) width (length places) are (length-map places (λ place. get_or rows place [])) (rows_at_even places rows width c.requires.inside even)
    ∙ ap (λ (t : Table). with_rows t (rows_at places rows)) c.self.view_is
