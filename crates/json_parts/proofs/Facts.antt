-- PUBLIC: the lemmas that readers cite. Nothing else of proofs/ is theirs to import.
pub use Rattle.json_parts.proofs.Each.{with_front}
