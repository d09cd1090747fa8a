-- PUBLIC: the lemmas that crates above cite. Nothing else of proofs/ is theirs to import.
pub use Rattle.window_state.proofs.Entries.{sorted}
