use Rattle.std.proofs.Common.{◌≡◌, Some, List, length, option_map}
use Rattle.serde_json.specs.Data.{Data}
use Rattle.json_parts.specs.Parts.{each}
use Rattle.json_tokens.proofs.Facts.{ItemsRead}
use Rattle.input_texts.specs.InputText.{entry_text}
use Rattle.input_texts.specs.Seen.{partition_seen}
use Rattle.input_texts.proofs.SourceNotings.{IsBehind}
use Rattle.input_texts.proofs.noting.entries_noted.Given as goal

abbrev pub invariant-entries : goal.invariant-entries
invariant-entries l =
    (ds : List Data) × ItemsRead Some l.depth l.initial.reader ds l.reader × (l.place ≡ length ds) × IsBehind l.bound l.plan.columns l.plan.window.time l.watermark ds × (l.partition ≡ option_map (partition_seen l.bound l.plan.columns l.plan.window.time) (each entry_text ds))

abbrev pub decreases-entries : goal.decreases-entries
decreases-entries l = length l.reader
