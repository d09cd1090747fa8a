use Rattle.std.proofs.Common.{string_bytes}
use Rattle.savepoint_codec.specs.EntriesView.{entry_data}
use Rattle.job_texts.specs.ShowText.{entry_line}
use Rattle.job_texts.proofs.Lines.{item_more}
use Rattle.job_texts.proofs.show_text.write_entries.Goals as goal

pub loop-i-preserved : goal.loop-i-preserved
loop-i-preserved c =
    item_more (entry_line c.args.group) c.args.entries.now.entries c.loop-i.i (entry_data c.entry.result) (string_bytes c.args.text.now) (string_bytes c.loop-i.text) (string_bytes c.write_entry.new.text)
    c.entry.ensures c.in_ok-write_entry.ensures c.loop-i.invariant
