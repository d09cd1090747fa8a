use Rattle.std.proofs.Common.{◌≡◌, ◌+◌, ◌∷◌, length, map, take, codes, string_bytes}
use Rattle.row_tables.specs.Cells.{kind_at, aggregate_kind}
use Rattle.row_export.specs.Titles.{field_at, title_of}
use Rattle.row_export.proofs.table.Table.new.Given as goal

abbrev pub invariant-loop-aggregate : goal.invariant-loop-aggregate
invariant-loop-aggregate l = record {
  kinds : l.kinds.items ≡ kind_at l.columns l.plan.window.time ∷ kind_at l.columns l.plan.window.time ∷ kind_at l.columns l.plan.window.key ∷ map (aggregate_kind l.columns) (take l.aggregate-index l.plan.window.aggregates);
  titles : map string_bytes l.names.items ≡ codes "start" ∷ codes "end" ∷ field_at l.columns l.plan.window.key ∷ map (title_of l.columns) (take l.aggregate-index l.plan.window.aggregates);
  width : length l.kinds.items ≡ l.aggregate-index + 3;
}
