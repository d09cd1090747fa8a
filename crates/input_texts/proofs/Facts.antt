-- PUBLIC: the lemmas that crates above cite. Nothing else of proofs/ is theirs to import.
pub use Rattle.input_texts.proofs.EntryNotings.{watermark_member}
pub use Rattle.input_texts.proofs.Rows.{list_all_map}
pub use Rattle.input_texts.proofs.Pairs.{and_then_parts, each_member-put, list_all-put_pair, one_replaced, put_pair, same_some}
pub use Rattle.input_texts.proofs.Sources.{all_weaker, distinct_sources, find_any, found_at, own_bounds}
