-- Which of two rows comes first.
use Rattle.std.specs.Prelude.{Option, Some, None}
use Rattle.std.specs.declared.cmp.Ordering.{Ordering}
use Rattle.std.specs.declared.cmp.Ordering.TheVariants.{Less, Equal, Greater}
use Rattle.plan_model.specs.declared.spec.Row.{Row}
use Rattle.plan_model.specs.Rows.{pane_of, pane_cmp}
use Rattle.row_changes.specs.declared.order.First.{First}
use Rattle.row_changes.specs.declared.order.First.TheVariants as first

abbrev pub first_by : Ordering → First
first_by Less = first.Old
first_by Greater = first.New
first_by Equal = first.Both

-- the one that is before the other by start and then key, or both
abbrev pub first_of : Option Row → Option Row → First
first_of None None = first.None
first_of (Some old) None = first.Old
first_of None (Some new) = first.New
first_of (Some old) (Some new) = first_by (pane_cmp (pane_of old) (pane_of new))
