-- The tasks of a leg begin as a world asks.
use Rattle.std.proofs.Common.{◌≡◌, ◌≤◌, ℕ, true, List, get_or, sym, ap, subst, ◌∙◌, arith}
use Rattle.stream_model.specs.InputData.{BelongsTo}
use Rattle.dataflow_model.specs.Role.{is_source}
use Rattle.dataflow_model.proofs.Facts.{source_yes}
use Rattle.task_steps.specs.TaskData.{TaskData}
use Rattle.task_steps.specs.Reading.{HasPartitions, ReadsFrom}
use Rattle.dataflow_laws.specs.Compiled.{layout_to}
use Rattle.legs.specs.declared.cut.Cut.{Cut}
use Rattle.task_setups.specs.Legs.{counts_of}
use Rattle.leg_tasks.specs.Beginning.{BeginLeg}
use Rattle.core_steps.specs.Given.{GivenData, layout_in}
use Rattle.core_steps.specs.World.{IsSound}
use Rattle.core_steps.specs.Beginning.{AreNewTasks}

pub are_new_tasks : (g : GivenData) (tasks : List TaskData) → IsSound g → BelongsTo g.plan g.input → BeginLeg g.plan g.input g.start g.layout.stages (layout_in g) tasks → AreNewTasks g tasks
are_new_tasks g tasks sound belongs begin =
    let count = sound.count in
    record {
      count = begin.count ∙ sym count;
      placed = λ t d l. (
          let early : t ≤ (layout_in g).sink = omega (arith, l, count) in
          let stands = begin.stands t d early in
          let reads : is_source (get_or tasks t d).setup.role ≡ true → HasPartitions (get_or tasks t d).setup g.input × ReadsFrom ((layout_in g).task t) (get_or tasks t d).setup g.input = λ source. begin.reads t d early (source_yes ((layout_in g).task t).role (ap is_source (sym stands.role) ∙ source)) in
          record {
            stands = stands;
            reads = λ source. (reads source).1;
            has = λ source. (reads source).0;
            columns = belongs.columns ∙ sym stands.columns;
            time = belongs.time ∙ sym stands.time;
          });
      going = λ t d l. begin.going t d (omega (arith, l, count));
      opening = λ t d l. begin.opening t d (omega (arith, l, count));
    }

-- the tasks of a leg that was told as much as the world was given begin as a world asks
pub begins : (g : GivenData) (n : ℕ) (saves cuts : List Cut) (tasks : List TaskData) → n ≡ g.start.number → saves ≡ cuts → counts_of cuts ≡ g.saves
    → BeginLeg g.plan g.input g.start g.layout.stages (layout_to g.plan g.input n (counts_of saves) g.until g.layout.stages) tasks → BeginLeg g.plan g.input g.start g.layout.stages (layout_in g) tasks
begins g n saves cuts tasks number same are begin =
    subst (λ k. BeginLeg g.plan g.input g.start g.layout.stages (layout_to g.plan g.input k g.saves g.until g.layout.stages) tasks) number
    (subst (λ xs. BeginLeg g.plan g.input g.start g.layout.stages (layout_to g.plan g.input n xs g.until g.layout.stages) tasks) (ap counts_of same ∙ are) begin)
