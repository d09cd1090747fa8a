use Rattle.std.proofs.Common.{◌≡◌, ◌+◌, ◌++◌, ◌∷◌, [], ◌∙◌, suc, ap, arith, sym}
use Rattle.std.specs.List.{range_with_len}
use Rattle.imports.proofs.Stands.{numbers_more}
use Rattle.imports.proofs.placing.first_places.Goals as goal

pub loop-place-preserved : goal.loop-place-preserved
loop-place-preserved c =
    let place = c.loop-place.place in
    let one : place + 1 ≡ suc place = omega arith in
    c.in_ok-push.ensures.items ∙ ap (λ places. places ++ place ∷ []) c.loop-place.invariant ∙ sym (ap (range_with_len 0) one ∙ numbers_more 0 place place (omega arith))
