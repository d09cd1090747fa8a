-- PUBLIC: the lemmas that crates above cite.
pub use Rattle.job_texts.proofs.Lines.{item_more, numbered_at}
pub use Rattle.job_texts.proofs.Numerals.{said_within}
