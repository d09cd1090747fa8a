use Rattle.std.proofs.Common.{List, ℕ, ◌++◌, ◌∙◌, ap, sym, append_assoc, take}
use Rattle.std.specs.List.{flat_map}
use Rattle.savepoint_codec.specs.EntriesView.{entry_data}
use Rattle.savepoint_codec.specs.Writing.{entry_bytes}
use Rattle.savepoint_codec.proofs.Spelled.{one_more}
use Rattle.savepoint_codec.proofs.encoding.put_entry_list.Goals as goal

pub loop-i-preserved : goal.loop-i-preserved
loop-i-preserved c =
    let entries = c.args.entries.now.entries in
    let before = flat_map entry_bytes (take c.loop-i.i entries) in
    let x = entry_data c.entry.result in
    c.in_ok-put_entry.ensures ∙ ap (λ (bytes : List ℕ). bytes ++ entry_bytes x) c.loop-i.invariant ∙ append_assoc c.args.out.now.items before (entry_bytes x)
    ∙ ap (λ (bytes : List ℕ). c.args.out.now.items ++ bytes) (sym (one_more entry_bytes entries c.loop-i.i x c.entry.ensures))
