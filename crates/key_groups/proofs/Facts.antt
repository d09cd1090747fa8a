-- PUBLIC: the lemmas that crates above cite. Nothing else of proofs/ is theirs to import.
pub use Rattle.key_groups.proofs.Each.{share_below}
