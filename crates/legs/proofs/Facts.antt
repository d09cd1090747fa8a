-- PUBLIC: the lemmas that crates above cite. Nothing else of proofs/ is theirs to import.
pub use Rattle.legs.proofs.Zipped.{all_zip, at_each}
