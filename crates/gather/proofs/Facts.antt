-- PUBLIC: the lemmas that crates above cite. Nothing else of proofs/ is theirs to import.
pub use Rattle.gather.proofs.Partitions.{any_from, all_from, found_good}
pub use Rattle.gather.proofs.Spelled.{no_source, IsEntryOk, counted_entry, or_true, weaken}
pub use Rattle.gather.proofs.Whole.{CanBeSaved, can_be_saved}
pub use Rattle.gather.proofs.Windows.{filtered, t_both, less}
