use Rattle.std.proofs.Common.{◌≡◌, IfSome, ap, length, map, rules, subst, sym, vec_len, ◌∙◌}
use Rattle.std.proofs.lemmas.List.{length-map}
use Rattle.std.specs.List.{range_with_len}
use Rattle.imports.specs.Picks.{picked}
use Rattle.imports.specs.Rows.{column_text}
use Rattle.imports.specs.Placing.{Alone, stand_in}
use Rattle.imports.proofs.Texts.{alone, in_order}
use Rattle.imports.proofs.placing.Places.in_header.Goals as goal

pub returns-in-Some : goal.returns-in-Some
returns-in-Some c =
    let places = c.in-Some.places.items in
    let stands = map stand_in c.in_ok-picks.picks.items in
    let single : map stand_in c.deref.result.now ≡ map Alone places = subst (λ single. IfSome single (λ places. map stand_in c.deref.result.now ≡ map Alone places.items)) c.in-Some.is c.in_ok-places.ensures.places in
    let are : stands ≡ map Alone places = sym (ap (map stand_in) c.deref.ensures.value) ∙ single in (
      stands,
      c.in_ok-picks.ensures,
      λ row. ap (λ picks. map (column_text places (picked picks row)) (range_with_len 0 (length stands))) c.new.ensures.items ∙ alone row places stands are,
    )

pub returns-in_ok-first_places-in-None : goal.returns-in_ok-first_places-in-None
returns-in_ok-first_places-in-None c =
    let picks = c.in_ok-picks.picks.items in
    let stands = map stand_in picks in
    let size : vec_len c.in_ok-picks.picks ≡ length picks = search rules in
    let count : length stands ≡ length picks = length-map picks stand_in in
    let places = c.in_ok-first_places-in-None.ensures.places ∙ ap (range_with_len 0) (c.len.ensures ∙ size ∙ sym count) in (
      stands,
      c.in_ok-picks.ensures,
      λ row. ap (λ places. map (column_text places (picked picks row)) (range_with_len 0 (length stands))) places ∙ in_order row picks (length stands) count,
    )
