-- PUBLIC: the lemmas that crates above cite. Nothing else of proofs/ is theirs to import.
pub use Rattle.leg_tasks.proofs.Snapshot.{tasks_save_the_cut}
