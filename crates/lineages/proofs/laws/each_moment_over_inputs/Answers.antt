use Rattle.lineages.proofs.Moments.{each_moment}
use Rattle.lineages.proofs.laws.each_moment_over_inputs.Goals as goal

pub returns : goal.returns
returns c = each_moment c.each_row_adds_up-each.ensures (record { none = c.nothing_due_at_first-first.ensures; add = c.rows_add_up-add.ensures; restart = c.snapshots_restart-restart.ensures; one = c.one_content-content.ensures; end = c.end_is_due-end.ensures; agreeing = c.agreeing_are_same-agreeing.ensures; keep = c.entries_keep_the_cut-keep.ensures })
