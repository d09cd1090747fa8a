-- What reading a list of legs answers of a JSON value, and of bytes.
use Rattle.std.specs.Prelude.{ℕ, Bool, true, false, List, Result, Ok, Err, if◌then◌else◌}
use Rattle.std.specs.Option.{option_map_or}
use Rattle.serde_json.specs.Data.{Data}
use Rattle.json_parts.specs.Parts.{json_of}
pub use Rattle.answers.specs.Answer.{Fails, Gives}
use Rattle.plan_model.specs.PlanData.{PlanData}
use Rattle.legs.specs.declared.fault.LegFault.{LegFault}
use Rattle.legs.specs.declared.fault.LegFault.TheVariants.{Legs, NotJson, Member, Memory}
use Rattle.legs.specs.declared.leg.LegSpec.{LegSpec}
use Rattle.leg_lists.specs.LegsText.{LegSaid, legs_text}
use Rattle.legs.specs.Requirements.{are_legs}
use Rattle.leg_lists.specs.Said.{◌>>=◌, legs_from}

-- the legs, where they are a list of legs
abbrev pub if_legs : List LegSpec → Result (List LegSpec) LegFault
if_legs legs = if are_legs legs then Ok legs else Err Legs

-- the legs that a text is, or the first fault: of the scales first
abbrev pub legs_or_fault : PlanData → List LegSaid → Result (List LegSpec) LegFault
legs_or_fault plan text = legs_from plan 0 text >>= if_legs

-- the legs that a JSON value is, or the first fault
unfoldable pub legs_of_json : PlanData → Data → Result (List LegSpec) LegFault
legs_of_json plan d = option_map_or (legs_or_fault plan) (legs_text d) (Err Member)

-- the legs that the bytes are, or the first fault
unfoldable pub legs_of_bytes : PlanData → List ℕ → Result (List LegSpec) LegFault
legs_of_bytes plan bytes = option_map_or (legs_of_json plan) (json_of bytes) (Err NotJson)

-- a fault that says nothing of the text
abbrev pub is_memory : LegFault → Bool
is_memory Memory = true
is_memory fault = false
