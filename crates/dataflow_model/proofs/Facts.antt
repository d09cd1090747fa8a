-- PUBLIC: the lemmas on sums, logs and tests that crates above cite. Nothing else of proofs/ is theirs to import.
pub use Rattle.dataflow_model.proofs.Totals.{total_same, total_add, total_none, total_swap, total_front, total_at, total_at_le, total_le, total_up, total_change, total_places, eqb_swap, front_and_one}
pub use Rattle.dataflow_model.proofs.Pendings.{onto_ahead, only_append, only_past, only_spread, given_put, given_spread}
pub use Rattle.dataflow_model.proofs.Tests.{source_yes, not_a_source, no_source, free_is, released_at, get_free}
pub use Rattle.dataflow_model.proofs.Shutting.{all_shut_at, none_held_at, all_ended_by, stops_last, last_is}
