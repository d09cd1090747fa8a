-- By which choices a job has run, and what it wrote.
use Rattle.std.specs.Prelude.{◌≡◌, ℕ, List, length, Option, Ok}
use Rattle.std.specs.Io.KnownBytes.{Appends}
use Rattle.plan_model.specs.PlanData.{PlanData}
use Rattle.plan_model.specs.declared.spec.Row.{Row}
use Rattle.logical_plan.specs.Answer.{plan_of_bytes}
use Rattle.stream_model.specs.InputData.{InputData}
use Rattle.input_texts.specs.Answer.{input_of_bytes}
use Rattle.leg_lists.specs.Answer.{legs_of_bytes}
use Rattle.leg_lists.specs.ChoicesText.{choices_of_bytes}
use Rattle.legs.specs.declared.choice.Choice.{Choice}
use Rattle.legs.specs.declared.leg.LegSpec.{LegSpec}
use Rattle.leg_runs.specs.Choosing.{IsLegBy}
use Rattle.job_legs.specs.Turns.{HaveRunBy}
use Rattle.job_texts.specs.Text.{text_of_rows}

-- the text of the rows to which turns of these legs have come, each by the list of choices at its place
pub record IsTextBy (p : PlanData) (i : InputData) (legs : List LegSpec) (lists : List (List Choice)) (text : List ℕ) : Type 0 where
  pub rows : List Row
  pub left : Option (List ℕ)
  pub run : HaveRunBy IsLegBy p i legs lists rows left
  pub lines : text ≡ text_of_rows rows

-- the same by the choices that bytes are
abbrev pub IsTextChosen : PlanData → InputData → List LegSpec → List ℕ → List ℕ → Type 0
IsTextChosen p i legs choices text = (lists : List (List Choice)) × (choices_of_bytes (length legs) choices ≡ Ok lists) × IsTextBy p i legs lists text

-- and of the legs, of the input and of the plan that bytes are
abbrev pub IsTextOfLegs : PlanData → InputData → List ℕ → List ℕ → List ℕ → Type 0
IsTextOfLegs p i legs choices text = (list : List LegSpec) × (legs_of_bytes p legs ≡ Ok list) × IsTextChosen p i list choices text

abbrev pub IsTextOfInput : PlanData → List ℕ → List ℕ → List ℕ → List ℕ → Type 0
IsTextOfInput p input legs choices text = (i : InputData) × (input_of_bytes p input ≡ Ok i) × IsTextOfLegs p i legs choices text

abbrev pub IsTextOfPlan : List ℕ → List ℕ → List ℕ → List ℕ → List ℕ → Type 0
IsTextOfPlan plan input legs choices text = (p : PlanData) × (plan_of_bytes plan ≡ Ok p) × IsTextOfInput p input legs choices text

-- what a writer held has grown by such a text
abbrev pub WritesChosen : List ℕ → List ℕ → List ℕ → List ℕ → Option (List ℕ) → Option (List ℕ) → Type 0
WritesChosen plan input legs choices old new = (text : List ℕ) × IsTextOfPlan plan input legs choices text × Appends old new text
