-- PUBLIC: the lemmas that crates above cite. Nothing else of proofs/ is theirs to import.
pub use Rattle.redistribute.proofs.Dealt.{known, early, places, last_row, nothing, no_leg}
pub use Rattle.redistribute.proofs.Found.{or_none, find_in_both, found_in, one_from}
pub use Rattle.redistribute.proofs.Beginning.{offsets_in, shaped}
pub use Rattle.redistribute.proofs.Owned.{has, owns}
pub use Rattle.redistribute.proofs.Opened.{saved_there, tasks_open, tasks_have_snapshot, tasks_have_own_panes, no_saves}
pub use Rattle.redistribute.proofs.Grouped.{open_within, total_within}
pub use Rattle.redistribute.proofs.Rising.{all_at, rises_to}
