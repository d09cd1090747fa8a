-- PUBLIC: the lemmas that crates above cite. Nothing else of proofs/ is theirs to import.
pub use Rattle.json_tokens.proofs.Converted.{converted_some, text_read}
pub use Rattle.json_tokens.proofs.ItemTurns.{ItemsRead, list_opens, items_begin, items_go_on, items_next, items_over}
pub use Rattle.json_tokens.proofs.MemberTurns.{members_begin, members_go_on, members_over, one_member}
pub use Rattle.json_tokens.proofs.NamedMembers.{equal_from, got_put, kept_put, stays_put}
pub use Rattle.json_tokens.proofs.Refusals.{no_token, items_refused, list_refused, member_fails, key_fails, object_refused}
