-- The legs that a text stands for.
use Rattle.std.specs.Prelude.{ℕ, ◌+◌, List, [], ◌∷◌, Result, Ok, Err}
use Rattle.std.specs.Result.{result_map_both}
use Rattle.serde_json.specs.Data.{Data}
use Rattle.plan_model.specs.PlanData.{PlanData}
use Rattle.layout_rules.specs.ScaleData.{ScaleData}
use Rattle.plan_scale.specs.Answer.{scale_of_json}
use Rattle.legs.specs.declared.fault.LegFault.{LegFault}
use Rattle.legs.specs.declared.fault.LegFault.TheVariants.{Scale}
use Rattle.legs.specs.declared.leg.LegSpec.{LegSpec}
use Rattle.leg_lists.specs.LegsText.{LegSaid}

infixl 10 ◌>>=◌
abbrev pub ◌>>=◌ : {A B F : Type 0} → Result A F → (A → Result B F) → Result B F
Ok x >>= f = f x
Err fault >>= f = Err fault

-- the scale of the leg at a place, or its fault with the place
abbrev pub scale_at : PlanData → ℕ → Data → Result ScaleData LegFault
scale_at plan place d = result_map_both (λ scale. scale) (Scale place) (scale_of_json plan d)

-- the legs from a place on, or the fault of the first scale that has one
abbrev pub legs_from : PlanData → ℕ → List LegSaid → Result (List LegSpec) LegFault
legs_from plan place [] = Ok []
legs_from plan place (leg ∷ legs) = do
  scale ← scale_at plan place leg.scale
  rest ← legs_from plan (place + 1) legs
  Ok (record { scale = scale; saves = leg.saves; stop = leg.stop } ∷ rest)
