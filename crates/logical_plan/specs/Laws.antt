-- What the definitions mean together.
use Rattle.std.specs.Prelude.{◌≡◌, ℕ, List, Ok}
use Rattle.plan_model.specs.PlanData.{PlanData, IsPlan}
use Rattle.logical_plan.specs.Answer.{plan_of_bytes}

-- what bytes say as a plan meets what every plan does
abbrev pub SaidIsPlan : Type 0
SaidIsPlan = (bytes : List ℕ) (p : PlanData) → plan_of_bytes bytes ≡ Ok p → IsPlan p
