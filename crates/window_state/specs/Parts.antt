-- The panes of a state one by one.
use Rattle.std.specs.Prelude.{◌≡◌, map, List, [], ◌∷◌, ◌++◌, Option, Some, None}
use Rattle.std.specs.List.Sorted.{IsStrictlySortedBy}
use Rattle.std.specs.Map.{keys_of, lookup}
use Rattle.plan_model.specs.declared.spec.WindowSpec.{WindowSpec}
use Rattle.plan_model.specs.declared.spec.Pane.{Pane}
use Rattle.plan_model.specs.Aggregates.{Aggregated}
use Rattle.plan_model.specs.Rows.{pane_cmp}
use Rattle.aggregates.specs.declared.kind.Kind.{Kind}
use Rattle.aggregates.specs.Kinds.{AccData, kind_of}
use Rattle.packed_parts.specs.declared.part.Part.{Part}
use Rattle.packed_parts.specs.Packing.{PackingData}
use Rattle.window_state.specs.Windows.{is_pane, IsStart}

-- the part of what stands in a pane, by the operator's kinds
abbrev pub part_of : List Kind → Pane × Aggregated → Part
part_of kinds e = record { pane = e.0; acc = record { kinds = kinds; total = e.1 } }

-- what stands in some panes, where anything does, in the order of the panes
abbrev pub with_entry : Pane → Option Aggregated → List (Pane × Aggregated) → List (Pane × Aggregated)
with_entry p None rest = rest
with_entry p (Some a) rest = (p, a) ∷ rest

abbrev pub entries_at : (Pane → Option Aggregated) → List Pane → List (Pane × Aggregated)
entries_at f [] = []
entries_at f (p ∷ ps) = with_entry p (f p) (entries_at f ps)

-- a part for each entry
abbrev pub parts_in : List Kind → List (Pane × Aggregated) → List Part
parts_in kinds entries = map (part_of kinds) entries

-- the panes of parts, and what stands in each
abbrev pub panes_in : List Part → List Pane
panes_in parts = map (λ p. p.pane) parts

abbrev pub accs_in : List Part → List (Pane × AccData)
accs_in parts = map (λ p. (p.pane, p.acc)) parts

-- the entries of a state's map that parts stand for
abbrev pub entries_of : List Part → List (Pane × Aggregated)
entries_of parts = map (λ p. (p.pane, p.acc.total)) parts

-- a part of a state of the window operator: it has the operator's aggregates, and a start in range
pub record IsPartOf (w : WindowSpec) (p : Part) : Type 0 where
  pub kinds : p.acc.kinds ≡ map kind_of w.aggregates
  pub start : IsStart p.pane.start

-- a part for each pane where something stands is put behind others, in the order of the panes
pub record PutsParts (kinds : List Kind) (f : Pane → Option Aggregated) (old new : PackingData) : Type 0 where
  pub entries : List (Pane × Aggregated)
  pub ordered : IsStrictlySortedBy pane_cmp (keys_of entries)
  pub those : (q : Pane) → lookup (is_pane q) entries ≡ f q
  pub is : new ≡ record old { parts = old.parts ++ parts_in kinds entries }
