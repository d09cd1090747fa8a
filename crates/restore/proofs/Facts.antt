-- PUBLIC: the lemmas that crates above cite. Nothing else of proofs/ is theirs to import.
pub use Rattle.restore.proofs.Sound.{groups_sound}
pub use Rattle.restore.proofs.Starts.{kinds_in, not_due_first}
pub use Rattle.restore.proofs.Windows.{starts_within}
