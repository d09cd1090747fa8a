-- PUBLIC: the lemmas that crates above cite. Nothing else of proofs/ is theirs to import.
pub use Rattle.savepoint_index.proofs.Said.{said_spells, spelled_said}
