-- PUBLIC: the lemmas that crates above cite. Nothing else of proofs/ is theirs to import.
pub use Rattle.columns.proofs.Columns.{rows_of-column_of, by_columns-more, by_columns_whole, table_is, flat_map-more, length-flat_map, columns_in-flat_map}
pub use Rattle.columns.proofs.Written.{written_whole, kept-map_test}
pub use Rattle.columns.proofs.Kept.{places_below, places_few, kept_at_places}
