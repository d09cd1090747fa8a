-- What the definitions mean together.
use Rattle.std.specs.Prelude.{◌≡◌, ℕ, List, Ok}
use Rattle.plan_model.specs.PlanData.{PlanData, IsPlan}
use Rattle.stream_model.specs.InputData.{InputData, IsInput, BelongsTo}
use Rattle.stream_model.specs.Watermarks.{IsOrderly}
use Rattle.input_texts.specs.Answer.{input_of_bytes}

-- what bytes say as an input of a sound plan meets what every input does, and is one of the plan
abbrev pub SaidIsInput : Type 0
SaidIsInput = (plan : PlanData) (bytes : List ℕ) (i : InputData) → IsPlan plan → input_of_bytes plan bytes ≡ Ok i → IsInput i × IsOrderly i.time i.sources × BelongsTo plan i
