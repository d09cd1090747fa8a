-- What is known of the partitions that are collected, as `src/sources.rt` has them.
use Rattle.std.specs.Prelude.{◌^◌, ◌<◌, List, FitsSigned}
use Rattle.std.specs.Int.{w64}
use Rattle.std.specs.List.{All}
use Rattle.savepoint_codec.specs.declared.savepoint.SavedPartition.{SavedPartition}

-- by its type: the offset and the watermark fit their fields
pub record IsTypedPartition (p : SavedPartition) : Type 0 where
  pub offset : p.offset < 2 ^ 64
  pub watermark : FitsSigned w64 p.watermark

abbrev pub AreTyped : List SavedPartition → Type 0
AreTyped partitions = All IsTypedPartition partitions
