-- What a JSON value says as a scale. None: a member is missing, unknown or of another form.
use Rattle.std.specs.Prelude.{ℕ, true, List, [], ◌∷◌, Option, Some, codes}
use Rattle.serde_json.specs.Data.{Data}
use Rattle.serde_json.specs.Find.{get}
use Rattle.json_parts.specs.Parts.{◌>>=◌, whole_at, object_of}
use Rattle.json_parts.specs.Flags.{flag_or}
use Rattle.json_parts.specs.Members.{members_text}
use Rattle.plan_scale.specs.declared.text.OperatorText.{OperatorText}
use Rattle.plan_scale.specs.declared.text.ScaleText.{ScaleText}

-- without a chain it is true
unfoldable pub operator_text : Data → Option OperatorText
operator_text d = object_of (codes "parallelism" ∷ codes "chain" ∷ []) d do
  parallelism ← whole_at (codes "parallelism") d
  chain ← flag_or (codes "chain") true d
  Some (record { parallelism = parallelism; chain = chain })

unfoldable pub operators_at : Data → Option (List (List ℕ × OperatorText))
operators_at d = do
  operators ← get (codes "operators") d
  members_text operator_text operators

unfoldable pub scale_text : Data → Option ScaleText
scale_text d = object_of (codes "ring" ∷ codes "operators" ∷ []) d do
  ring ← whole_at (codes "ring") d
  operators ← operators_at d
  Some (record { ring = ring; operators = operators })
