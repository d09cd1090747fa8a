use Rattle.std.proofs.Common.{◌≡◌, Some, List, length, option_map}
use Rattle.serde_json.specs.Data.{Data}
use Rattle.json_parts.specs.Parts.{cell_text, list_text, each}
use Rattle.json_tokens.proofs.Facts.{ItemsRead}
use Rattle.input_texts.proofs.Notings.{rows_so_far}
use Rattle.input_texts.proofs.noting.rows_noted.Given as goal

abbrev pub invariant-rows : goal.invariant-rows
invariant-rows l =
    (ds : List Data) × ItemsRead Some l.depth l.initial.reader ds l.reader × (l.count ≡ length ds) × (l.rows ≡ option_map (rows_so_far l.plan.columns l.plan.window.time l.watermark) (each (list_text cell_text) ds))

abbrev pub decreases-rows : goal.decreases-rows
decreases-rows l = length l.reader
