use Rattle.std.proofs.Common.{string_bytes, ◌∙◌, sym}
use Rattle.std.specs.Prelude.{bytes_eq}
use Rattle.plain_data.proofs.Facts.{position_map, list_any_map}
use Rattle.name_table.proofs.table.NameTable.place_of.Goals as goal

pub returns-clause-place : goal.returns-clause-place
returns-clause-place c = rw (← c.self.view_is) (c.get_index_of.ensures.index ∙ sym (position_map (bytes_eq c.args.name.now) string_bytes c.self.inside.names.keys))

pub returns-clause-found : goal.returns-clause-found
returns-clause-found c = rw (← c.self.view_is) (c.get_index_of.ensures.found ∙ sym (list_any_map (bytes_eq c.args.name.now) string_bytes c.self.inside.names.keys))
