-- PUBLIC: the lemmas that crates above cite. Nothing else of proofs/ is theirs to import.
pub use Rattle.window_slices.proofs.Boundaries.{slices_start_at_boundaries, windows_have_whole_slices}
pub use Rattle.window_slices.proofs.Starts.{Reached, last_start, next_start}
pub use Rattle.window_slices.proofs.LastStarts.{whole_slides}
pub use Rattle.window_slices.proofs.SpanFits.{some_in_span, count_in_span}
pub use Rattle.window_slices.proofs.Wide.{wider, widened}
