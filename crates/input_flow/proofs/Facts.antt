-- PUBLIC: the lemmas that crates above cite. Nothing else of proofs/ is theirs to import.
pub use Rattle.input_flow.proofs.Places.{same_sources, same_partitions, there, back}
pub use Rattle.input_flow.proofs.Orderly.{at_or, partition_has, input_is_orderly, records_of_message}
pub use Rattle.input_flow.proofs.Cuts.{records_dealt, watermark_at_cut, snapshot_at_cut, due_at_cut, cut_in, full_is_cut, full_counts, empty_is_cut, empty_counts}
