use Rattle.std.proofs.Common.{◌≡◌, suc, ◌+◌, length, map, sym, ap, subst, ◌∙◌, arith}
use Rattle.std.specs.List.{range_with_len}
use Rattle.std.proofs.lemmas.List.{length-map}
use Rattle.std.specs.Prelude.{if◌then◌else◌}
use Rattle.dataflow_model.specs.Role.{is_source}
use Rattle.layout_rules.specs.Scale.{IsParallelism}
use Rattle.layout_rules.specs.Layouts.{partition_counts}
use Rattle.layout_rules.specs.Stages as rule
use Rattle.layout_rules.specs.declared.stage.Edge.TheVariants.{ByGroup}
use Rattle.legs.specs.declared.cut.Cut.{Cut}
use Rattle.task_setups.specs.Legs.{counts_of, leg_over}
use Rattle.task_setups.specs.Setups as told
use Rattle.task_setups.proofs.Leading.{leads_on}
use Rattle.task_setups.proofs.setups.setup_of.Goals as goal

pub split_of-requires : goal.split_of-requires
split_of-requires c = λ e. subst (λ n. IsParallelism c.args.plan.now.max n) (sym c.subtasks_after.ensures)
    (leads_on c.args.plan.now c.args.layout.now c.args.task ByGroup c.window-window.ensures.sound c.requires.laid_out c.requires.task (ap (λ s. s.edge) (sym c.stage-stage.ensures.says) ∙ e))

pub returns : goal.returns
returns c =
    let p = c.args.plan.now in
    let stages = c.args.layout.now.stages in
    let t = c.args.task in
    let here = c.stage-stage.ensures.says in
    let window = c.window-window.ensures.says in
    let leg = leg_over c.args.leg.now c.args.input.now in
    let counts : c.args.layout.now.partitions ≡ partition_counts p = ap (λ l. l.partitions) c.requires.laid_out.is in
    let mine : c.partitions_of-partitions.result.now ≡ rule.partitions_of (partition_counts p) stages t = c.partitions_of-partitions.ensures ∙ ap (λ n. rule.partitions_of n stages t) counts in
    let source : c.source_of-source.result ≡ rule.source_of (rule.task_stage stages t).operators = c.source_of-source.ensures ∙ ap (λ s. rule.source_of s.operators) here in
    let role = c.role.ensures ∙ ap (λ s. rule.role_of s.operators) here in
    let inputs = c.input_count.ensures ∙ ap (λ n. if is_source (rule.task_role stages t) then length (rule.partitions_of n stages t) else length (rule.inputs_of stages t)) counts in
    let split = c.split_of.ensures ∙ ap (λ s. told.split_of p s.edge c.subtasks_after.result) here ∙ ap (told.split_of p (rule.task_stage stages t).edge) c.subtasks_after.ensures in
    let filters = c.in_ok-filters_of.ensures ∙ ap (told.filters_of p) c.as_slice.ensures ∙ ap (λ s. told.filters_of p s.operators) here in
    let having = c.in_ok-copy.ensures ∙ ap (λ w. w.having) window in
    let partitions = c.from_vec.ensures ∙ c.in_ok-from_slice.ensures.items ∙ mine in
    let saves = c.args.leg.now.saves.now in
    let count : length saves ≡ length (counts_of saves) = sym (length-map saves (λ (cut : Cut). cut.counts)) in
    let read = rule.source_of (rule.task_stage stages t).operators in
    let all = rule.partitions_of (partition_counts p) stages t in
    let limits = c.in_ok-limits_on_way.ensures
    ∙ ap (λ x. map (told.limits_at leg x c.partitions_of-partitions.result.now) (range_with_len 0 (length saves))) source
    ∙ ap (λ qs. map (told.limits_at leg read qs) (range_with_len 0 (length saves))) mine
    ∙ ap (λ n. map (told.limits_at leg read all) (range_with_len 0 n)) count in
    let ends = c.in_ok-ends_of.ensures
    ∙ ap (λ x. told.limits_at leg x c.partitions_of-partitions.result.now (length saves)) source
    ∙ ap (λ qs. told.limits_at leg read qs (length saves)) mine
    ∙ ap (told.limits_at leg read all) count in
    let first : c.args.leg.now.number + 1 ≡ suc c.args.leg.now.number = omega arith in
    λ i. record {
      number = c.args.task;
      role = role i;
      inputs = inputs i;
      outputs = c.output_count.ensures i;
      split = split i;
      filters = filters i;
      having = having i;
      columns = c.columns.ensures.says i;
      time = (window i).time;
      key = (window i).key;
      source = source i;
      partitions = partitions i;
      limits = limits i;
      ends = ends i;
      first = first i;
      saves = count i;
      ending = c.ending_of.ensures i;
    }
