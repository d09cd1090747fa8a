use Rattle.std.proofs.Common.{ℕ, ◌++◌, ◌∙◌, ap}
use Rattle.byte_fields.specs.Fields.{u64_field}
use Rattle.savepoint_codec.proofs.Spelled.{puts, entries-spell}
use Rattle.savepoint_codec.proofs.encoding.put_entries.Goals as goal

pub returns : goal.returns
returns c =
    let count = c.in_ok-put_u64.ensures ∙ ap (λ (n : ℕ). c.args.out.now.items ++ u64_field.spell n) c.len.ensures in
    puts c.put_entry_list.result _ _ _ _ _ _ count (entries-spell c.args.kinds.now c.args.entries.now.entries c.requires) c.put_entry_list.ensures
