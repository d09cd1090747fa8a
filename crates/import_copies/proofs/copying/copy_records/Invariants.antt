use Rattle.std.proofs.Common.{◌≡◌, ℕ, List, Option, map}
use Rattle.entry_texts.specs.Partitions.{Row}
use Rattle.import_fates.specs.Fates.{Taken}
use Rattle.imports.specs.Reading.{Rest, StandsAt}
use Rattle.import_copies.specs.Asking.{asked_of}
use Rattle.import_copies.specs.Copies.{Sorts}
use Rattle.import_copies.specs.Streams.{WritesRows}
use Rattle.import_copies.specs.Files.{TakesEach}
use Rattle.known_records.specs.Known.{keys_in, columns_in}
use Rattle.import_copies.specs.Streams.{rule_of, dealing_of}
use Rattle.import_copies.proofs.copying.copy_records.Given as goal

abbrev pub invariant-loop : goal.invariant-loop
invariant-loop g l = record {
  rule : rule_of l.partition ≡ rule_of l.fn.partition;
  dealing : dealing_of l.partition ≡ dealing_of l.fn.partition;
  columns : columns_in l.known ≡ columns_in l.fn.known;
  sorts : (before : List Row) (start : List (Option (List ℕ))) → WritesRows before start (map g.W.Write.contents l.fn.outs) l.fn.partition
      → (records : List Taken) × Sorts (rule_of l.fn.partition) (keys_in l.fn.known) before start (map g.W.Write.contents l.outs) l.known l.partition l.counts records
      × ((rest : Rest) → StandsAt g.R.Read.remaining l.fn.rows rest → (now : Rest) × TakesEach (asked_of l.source l.fn.known) rest records now × StandsAt g.R.Read.remaining l.rows now);
}
