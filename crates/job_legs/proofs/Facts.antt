-- PUBLIC: the lemmas that crates above cite. Nothing else of proofs/ is theirs to import.
pub use Rattle.job_legs.proofs.Ended.{come_to, row_to}
pub use Rattle.job_legs.proofs.Taken.{before_end}
