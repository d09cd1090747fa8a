use Rattle.std.proofs.Common.{string_bytes, ◌∙◌, sym}
use Rattle.std.specs.Prelude.{bytes_eq}
use Rattle.plain_data.proofs.Facts.{position_map}
use Rattle.plan_model.proofs.plan.Plan.place_of.Goals as goal

pub returns : goal.returns
returns c = rw (← c.self.view_is, ← c.self.invariant.1) (c.get_index_of.ensures.index ∙ sym (position_map (bytes_eq c.args.uid.now) string_bytes c.self.inside.places.keys))
