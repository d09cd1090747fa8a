-- PUBLIC: the lemmas that crates above cite. Nothing else of proofs/ is theirs to import.
pub use Rattle.savepoint_codec.proofs.LayoutExact.{entry_exact, front_exact, group_back, group_number_exact, refuses, unindexed_exact}
pub use Rattle.savepoint_codec.proofs.Spelled.{HaveSpellings, entry-spell, group_long, have_spellings, in_parts, one_more, puts, short_contents, spelled_more}
