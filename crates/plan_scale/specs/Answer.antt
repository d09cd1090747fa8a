-- What reading a scale answers of a JSON value, and of bytes.
use Rattle.std.specs.Prelude.{ℕ, Bool, true, false, List, Result, Err}
use Rattle.std.specs.Option.{option_map_or}
use Rattle.serde_json.specs.Data.{Data}
use Rattle.json_parts.specs.Parts.{json_of}
use Rattle.answers.specs.Answer.{value_or_fault}
pub use Rattle.answers.specs.Answer.{Fails, Gives}
use Rattle.plan_model.specs.PlanData.{PlanData}
use Rattle.layout_rules.specs.ScaleData.{ScaleData}
use Rattle.layout_rules.specs.declared.fault.ScaleFault.{ScaleFault}
use Rattle.layout_rules.specs.declared.fault.ScaleFault.TheVariants.{NotJson, Member, Memory}
use Rattle.plan_scale.specs.declared.text.ScaleText.{ScaleText}
use Rattle.plan_scale.specs.ScaleText.{scale_text}
use Rattle.plan_scale.specs.Said.{scale_of}
use Rattle.plan_scale.specs.Requirements.{requirements}

-- the scale that a text is, or the first fault
abbrev pub scale_or_fault : PlanData → ScaleText → Result ScaleData ScaleFault
scale_or_fault plan = value_or_fault (requirements plan) (scale_of plan)

-- the scale that a JSON value is, or the first fault
unfoldable pub scale_of_json : PlanData → Data → Result ScaleData ScaleFault
scale_of_json plan d = option_map_or (scale_or_fault plan) (scale_text d) (Err Member)

-- the scale that the bytes are, or the first fault
unfoldable pub scale_of_bytes : PlanData → List ℕ → Result ScaleData ScaleFault
scale_of_bytes plan bytes = option_map_or (scale_of_json plan) (json_of bytes) (Err NotJson)

-- a fault that says nothing of the text
abbrev pub is_memory : ScaleFault → Bool
is_memory Memory = true
is_memory fault = false
