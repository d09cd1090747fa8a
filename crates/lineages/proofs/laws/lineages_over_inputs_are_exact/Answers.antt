use Rattle.lineages.proofs.Exact.{over_inputs_exact}
use Rattle.lineages.proofs.laws.lineages_over_inputs_are_exact.Goals as goal

pub returns : goal.returns
returns c = over_inputs_exact (record { none = c.nothing_due_at_first-first.ensures; add = c.rows_add_up-add.ensures; restart = c.snapshots_restart-restart.ensures; one = c.one_content-content.ensures; end = c.end_is_due-end.ensures; agreeing = c.agreeing_are_same-agreeing.ensures; keep = c.entries_keep_the_cut-keep.ensures })
