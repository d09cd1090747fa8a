use Rattle.std.proofs.Common.{◌≡◌, Some, List, length, option_map}
use Rattle.serde_json.specs.Data.{Data}
use Rattle.json_parts.specs.Parts.{list_text, each}
use Rattle.json_tokens.proofs.Facts.{ItemsRead}
use Rattle.input_texts.specs.InputText.{entry_text}
use Rattle.input_texts.specs.Seen.{source_seen}
use Rattle.input_texts.proofs.noting.partitions_noted.Given as goal

abbrev pub invariant-partitions : goal.invariant-partitions
invariant-partitions l =
    (ds : List Data) × ItemsRead Some l.depth l.initial.reader ds l.reader × (l.source ≡ option_map (source_seen l.bound l.plan.columns l.plan.window.time) (each (list_text entry_text) ds))

abbrev pub decreases-partitions : goal.decreases-partitions
decreases-partitions l = length l.reader
