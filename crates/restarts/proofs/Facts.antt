-- PUBLIC: the lemmas that crates above cite. Nothing else of proofs/ is theirs to import.
pub use Rattle.restarts.proofs.Ascending.{Rises, counted_rises, IsBelow, group_below}
pub use Rattle.restarts.proofs.Uids.{keys, turned}
