use Rattle.std.proofs.Common.{subst, sym, ◌∙◌}
use Rattle.std.proofs.lemmas.List.Sums.{AllPass-from_list_all}
use Rattle.std.specs.List.{All}
use Rattle.plain_data.specs.Record.{at}
use Rattle.plan_model.specs.Windows.{IsTime, is_time}
use Rattle.refused_growths.proofs.states.has_times.Goals as goal
use Rattle.task_steps.proofs.Lists.{All-of_map}

pub returns : goal.returns
returns c = λ yes. All-of_map (at c.args.time) IsTime c.args.batch.now.rows (subst (All IsTime) c.column.ensures (AllPass-from_list_all is_time _ (sym c.are_times.ensures ∙ yes)))
