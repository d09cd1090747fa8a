-- What a JSON value says as a list of legs. None: a part is missing, unknown or of another form.
use Rattle.std.specs.Prelude.{List, [], ◌∷◌, Option, Some, codes, option_map}
use Rattle.std.specs.Option.{option_map_or}
use Rattle.serde_json.specs.Data.{Data}
use Rattle.serde_json.specs.View.{view}
use Rattle.serde_json.specs.Find.{get}
use Rattle.json_parts.specs.Parts.{◌>>=◌, count_text, each, elements, list_text, object_of}
use Rattle.legs.specs.declared.cut.Cut.{Cut}
use Rattle.legs.specs.declared.stop.Stop.{Stop}
use Rattle.legs.specs.declared.stop.Stop.TheVariants.{Never, At}
use Rattle.leg_lists.specs.declared.text.LegText.{LegText}

-- a leg whose scale is not yet read
pub record LegSaid : Type 0 where
  pub scale : Data
  pub saves : List Cut
  pub stop : Stop

abbrev pub leg_said : LegText → LegSaid
leg_said leg = record { scale = view leg.scale.now; saves = leg.saves; stop = leg.stop }

-- a count for each partition of each source
unfoldable pub cut_text : Data → Option Cut
cut_text d = option_map (λ counts. record { counts = counts }) (list_text (list_text count_text) d)

-- the cuts at which the leg takes savepoints on its way
unfoldable pub saves_text : Data → Option (List Cut)
saves_text d = do
  ds ← elements d
  each cut_text ds

-- without them it takes none
unfoldable pub saves_or_none : Data → Option (List Cut)
saves_or_none d = option_map_or saves_text (get (codes "saves") d) (Some [])

-- without a stop it goes on to the end
unfoldable pub stop_or_end : Data → Option Stop
stop_or_end d = option_map_or (λ stop. option_map At (cut_text stop)) (get (codes "stop") d) (Some Never)

unfoldable pub leg_text : Data → Option LegSaid
leg_text d = object_of (codes "scale" ∷ codes "saves" ∷ codes "stop" ∷ []) d do
  scale ← get (codes "scale") d
  saves ← saves_or_none d
  stop ← stop_or_end d
  Some (record { scale = scale; saves = saves; stop = stop })

-- what each value of the list says
unfoldable pub legs_text : Data → Option (List LegSaid)
legs_text d = do
  ds ← elements d
  each leg_text ds
