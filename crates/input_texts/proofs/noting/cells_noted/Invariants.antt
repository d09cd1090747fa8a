use Rattle.std.proofs.Common.{◌≡◌, ℤ, List, Option, length, is_some}
use Rattle.std.specs.List.{list_all}
use Rattle.plain_data.specs.Record.{at}
use Rattle.json_parts.specs.Parts.{cell_text}
use Rattle.json_tokens.proofs.Facts.{ItemsRead}
use Rattle.input_texts.specs.Said.{record_of}
use Rattle.input_texts.proofs.noting.cells_noted.Given as goal

abbrev pub invariant-cells : goal.invariant-cells
invariant-cells l =
    (cells : List (Option ℤ)) × ItemsRead cell_text l.depth l.initial.reader cells l.reader × (l.count ≡ length cells) × (l.is_whole ≡ list_all is_some cells) × (l.time ≡ at l.column (record_of cells))

abbrev pub decreases-cells : goal.decreases-cells
decreases-cells l = length l.reader
