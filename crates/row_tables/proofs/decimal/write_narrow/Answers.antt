use Rattle.std.proofs.Common.{rules, arith, ◌≡◌, ◌-◌, [], ◌++◌, Ok, length, take, drop, length-drop, string_bytes, sym, ap, subst, ◌∙◌}
use Rattle.std.proofs.lemmas.List.{take_all}
use Rattle.field_values.specs.Decimals.{scaled_said}
use Rattle.row_tables.specs.Decimals.{decimal_text}
use Rattle.row_tables.proofs.Decimals.{reads}
use Rattle.row_tables.proofs.decimal.write_narrow.Goals as goal

pub returns : goal.returns
returns c =
    let places = c.args.places in
    let start = c.fill_scaled-start.result in
    let room = c.fill_scaled-start.new.room in
    let said : scaled_said places (decimal_text places c.args.number) ≡ Ok c.args.number = reads places c.args.number (search rules) (search rules) in
    let long : length room ≡ 48 = search rules in
    let rest : take (48 - start) (drop start room) ≡ drop start room = take_all (48 - start) (drop start room) (omega (arith, length-drop start room, long)) in
    let written : drop start room ≡ decimal_text places c.args.number = search rules in
    let none : string_bytes c.clear.new.self ≡ [] = search rules in
    let text : string_bytes c.push_bytes.new.text ≡ decimal_text places c.args.number =
    c.in_ok-push_bytes.ensures ∙ ap (λ l. l ++ take (48 - start) (drop start room)) none ∙ rest ∙ written in
    subst (λ t. scaled_said places t ≡ Ok c.args.number) (sym text) said
