use Rattle.std.proofs.Common.{length, ◌∙◌}
use Rattle.stream_model.specs.Watermarks.{records_before}
use Rattle.restore.specs.declared.entries.EntryTest.TheVariants.{Counted}
use Rattle.restore.specs.Saved.{saved_sources, cut_of}
use Rattle.restore.specs.EntryTest.{passes}
use Rattle.restore.specs.Requirements.{every_entry, has_counts}
use Rattle.restore.proofs.Counts.{counted}
use Rattle.restore.proofs.checking.has_counts.Goals as goal

pub returns : goal.returns
unfolding has_counts
returns c =
    c.every_entry.ensures
    ∙ (λ i. every_entry (passes (c.window.ensures.says i) (Counted (c.requires.records i))) (c.as_slice.ensures i))
    ∙ counted (length (records_before c.args.input.now.sources (cut_of (saved_sources c.args.plan.now c.args.contents.now)))) c.args.contents.now.kinds c.args.contents.now.groups c.requires.sound
