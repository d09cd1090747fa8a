-- What spread gives can be put together again.
use Rattle.std.specs.Prelude.{◌≡◌, ℕ, ◌<◌, true, List, length, map, slice_index_or}
use Rattle.std.specs.FinMap.{FinMap, get}
use Rattle.std.specs.List.{All}
use Rattle.std.specs.List.Sorted.{IsStrictlySortedBy}
use Rattle.key_groups.specs.Groups.{key_group}
use Rattle.plan_model.specs.declared.spec.Pane.{Pane}
use Rattle.plan_model.specs.Aggregates.{Aggregated}
use Rattle.plan_model.specs.PlanData.{PlanData}
use Rattle.plan_model.specs.Rows.{pane_cmp}
use Rattle.layout_rules.specs.Layouts.{partition_counts}
use Rattle.layout_rules.specs.declared.stage.Stage.{Stage}
use Rattle.plan_compiler.specs.Tables.{each_task}
use Rattle.aggregates.specs.declared.kind.Kind.{Kind}
use Rattle.aggregates.specs.Kinds.{kind_of, is_entry}
use Rattle.savepoint_codec.specs.declared.savepoint.SavedGroup.{SavedGroup}
use Rattle.savepoint_codec.specs.declared.savepoint.SavedPartition.{SavedPartition}
use Rattle.redistribute.specs.StartData.{StartData}
use Rattle.redistribute.specs.Parts.{whole_task_start}
use Rattle.gather.specs.Parts.{AreParts}
use Rattle.gather.specs.Saved.{savepoint_of}

-- a key group has entries with these kinds, which are the plan's, with keys of its own, in the order of their panes
pub record IsGroupFor (p : PlanData) (kinds : List Kind) (g : SavedGroup) : Type 0 where
  pub kinds_of : kinds ≡ map kind_of p.window.aggregates
  pub entries : All (λ e. is_entry kinds e.total.count e.total.numbers ≡ true) g.entries.entries
  pub keys : All (λ e. key_group p.max e.pane.key ≡ g.group) g.entries.entries
  pub ordered : IsStrictlySortedBy pane_cmp (map (λ e. e.pane) g.entries.entries)

-- what stands in the windows of a start is what the plan's may hold, and no key group stands twice
pub record HasGroups (p : PlanData) (s : StartData) : Type 0 where
  pub each : All (IsGroupFor p s.kinds) s.groups
  pub once : (i j : ℕ) (d : SavedGroup) → i < length s.groups → j < length s.groups → (slice_index_or s.groups i d).group ≡ (slice_index_or s.groups j d).group → i ≡ j

-- what spread gives of such a start are parts that can be put together
abbrev pub SpreadAreParts : Type 0
SpreadAreParts = (p : PlanData) (stages : List Stage) (s : StartData) → HasGroups p s → AreParts p stages (each_task stages (whole_task_start p.max (partition_counts p) s stages))

-- windows that hold the same in each pane make the same savepoint
abbrev pub SamePanesSameSavepoint : Type 0
SamePanesSameSavepoint = (p : PlanData) (sources : List (List SavedPartition)) (windows others : FinMap pane_cmp Aggregated) (number : ℕ) → ((q : Pane) → get windows q ≡ get others q) → savepoint_of p sources windows number ≡ savepoint_of p sources others number
