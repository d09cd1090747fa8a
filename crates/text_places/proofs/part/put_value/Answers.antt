use Rattle.std.proofs.Common.{◌≡◌, sym, ◌∙◌, arith, drop, true, Some, slice_get}
use Rattle.std.proofs.lemmas.Grind.{common_steps}
use Rattle.std.proofs.lemmas.Option.{slice_get-get_or}
use Rattle.json.specs.declared.token.Token.TheVariants.{BeginObject}
use Rattle.text_places.specs.Parts.{IsPartOf, level_at, is_beginning}
use Rattle.text_places.specs.declared.spot.Spot.{Spot}
use Rattle.text_places.proofs.Parting.{part_on}
use Rattle.text_places.proofs.part.put_value.Goals as goal

pub returns-in_ok-push : goal.returns-in_ok-push
returns-in_ok-push c =
    let spots = c.args.spots.now in
    let p = c.make_part.result in
    let level : level_at c.args.place spots ≡ 1 = sym c.requires.depth ∙ c.if-depth-eq1.true in
    let begins : is_beginning p.value.token ≡ true = rw c.make_part.ensures.0 (sym c.begins_value.ensures ∙ c.if-begins_value.true) in
    let made = c.make_part.ensures in
    let first : Spot = record { token = BeginObject; offset = 0 } in
    let stands : slice_get spots c.args.place ≡ Some (record { token = p.value.token; offset = p.value.offset }) =
    rw (made.0, made.1) (slice_get-get_or spots c.args.place first c.requires.place) in
    let rest : p.value.spots.now ≡ drop c.args.place spots = grind (arith, common_steps) in
    let here : IsPartOf spots p = (c.args.place, level, begins, stands, rest) in
    part_on spots c.args.parts.now.items c.push.new.self.items p here c.in_ok-push.ensures.items
