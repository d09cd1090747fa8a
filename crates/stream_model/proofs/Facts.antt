-- PUBLIC: the lemmas that crates above cite. Nothing else of proofs/ is theirs to import.
pub use Rattle.stream_model.proofs.LateRecords.{above, moved, orderly, watermark_goes_on}
pub use Rattle.stream_model.proofs.Due.{filter_nothing, le_fold, le_max, le_trans_z, lowest_highest, partition_watermark-highest}
pub use Rattle.stream_model.proofs.Greatest.{after, max_second}
pub use Rattle.stream_model.proofs.MadeMarks.{keeps, fold_within, lowest_mark, time_mark}
pub use Rattle.stream_model.proofs.Snapshots.{watermark_low, end_is_due, nothing_at_first, empty_records, some_only}
