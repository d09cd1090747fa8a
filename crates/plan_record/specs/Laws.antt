-- The law of keys in order.
use Rattle.std.specs.Prelude.{◌≡◌, ℕ, Bool, List}
use Rattle.std.specs.List.{list_any}
use Rattle.std.specs.List.Sorted.{IsStrictlySortedBy}
use Rattle.std.specs.Ordering.{nat_cmp}
use Rattle.std.specs.Cmp.Lexicographic.{slice_cmp}
use Rattle.std.specs.declared.cmp.Ordering.{Ordering}
use Rattle.plan_record.specs.declared.record.Condition.{Condition}
use Rattle.plan_record.specs.PlanRecord.{ascending, condition_cmp}

-- the keys rise from each to the next, and are those that they are made of
pub record IsInOrder {K : Type 0} (cmp : K → K → Ordering) (keys ordered : List K) : Type 0 where
  pub rises : IsStrictlySortedBy cmp ordered
  pub members : (test : K → Bool) → list_any test ordered ≡ list_any test keys

-- the uids and the conditions of a plan's record stand in order, each once
abbrev pub AscendingIsInOrder : Type 0
AscendingIsInOrder = ((uids : List (List ℕ)) → IsInOrder (slice_cmp nat_cmp) uids (ascending (slice_cmp nat_cmp) uids))
    × ((conditions : List Condition) → IsInOrder condition_cmp conditions (ascending condition_cmp conditions))
