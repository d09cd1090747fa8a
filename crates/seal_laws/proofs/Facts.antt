-- PUBLIC: the law that proofs in crates above cite. Nothing else of proofs/ is theirs to import.
pub use Rattle.seal_laws.proofs.Histories.{ended_have_passed}
