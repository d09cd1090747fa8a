-- PUBLIC: the lemmas that crates above cite. Nothing else of proofs/ is theirs to import.
pub use Rattle.made_watermarks.proofs.Made.{IsTimely, timely_rows, watermark_is_made}
