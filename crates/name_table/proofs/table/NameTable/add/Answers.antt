use Rattle.std.proofs.Common.{◌≡◌, ◌∙◌, sym, ap, subst, map, false, length, arith, string_bytes, length-append, List, ℕ, [], ◌∷◌}
use Rattle.std.specs.Prelude.{bytes_eq}
use Rattle.std.specs.String.{string_eq}
use Rattle.std.specs.List.{list_any}
use Rattle.std.proofs.lemmas.List.{length-map, map-append}
use Rattle.plain_data.proofs.Facts.{list_any_map}
use Rattle.name_table.proofs.Lists.{place_none}
use Rattle.name_table.proofs.table.NameTable.add.Goals as goal

pub returns-clause-names : goal.returns-clause-names
returns-clause-names c =
    let text = c.in_ok-name.ensures.ok in
    let absent = sym (list_any_map (bytes_eq c.args.name.now) string_bytes c.self.inside.names.keys) ∙ (rw (← c.self.view_is) at c.requires) in
    let new : list_any (string_eq c.in_ok-name.name) c.self.inside.names.keys ≡ false = subst (λ (t : List ℕ). list_any (λ k. bytes_eq t (string_bytes k)) c.self.inside.names.keys ≡ false) (sym text) absent in
    let keys = rw new at c.in_ok-insert.ensures.keys in
    rw (← c.self.view_is, ← text) (ap (map string_bytes) keys ∙ map-append string_bytes c.self.inside.names.keys (c.in_ok-name.name ∷ []))

pub returns-clause-number : goal.returns-clause-number
returns-clause-number c =
    let all = returns-clause-names c in
    let more = length-append c.args.self.now (c.args.name.now ∷ []) in
    let end = place_none (bytes_eq c.args.name.now) c.args.self.now c.requires in
    omega (arith, simp length-map at (ap length all), c.len.ensures.len)
