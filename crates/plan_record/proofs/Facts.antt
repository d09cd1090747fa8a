-- PUBLIC: the lemmas that crates above cite. Nothing else of proofs/ is theirs to import.
pub use Rattle.plan_record.proofs.Ascending.{keys_more, map_insert_key, all_insert_key, length-ascending}
pub use Rattle.plan_record.proofs.Placed.{length-placed}
