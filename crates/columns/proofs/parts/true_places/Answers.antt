use Rattle.std.proofs.Common.{ℕ, Vec, Global, List, [], ◌∷◌, ◌++◌, ap, ◌∙◌, sym}
use Rattle.std.proofs.lemmas.List.{append-nil}
use Rattle.columns.proofs.Kept.{places_more}
use Rattle.columns.proofs.parts.true_places.Goals.{then-is_kept+in_ok-push, else-is_kept}
use Rattle.columns.proofs.parts.true_places.Goals as goal

pub loop-place-preserved : goal.loop-place-preserved
loop-place-preserved c =
    let place = c.loop-place.place in
    let e = places_more c.args.mask.now place c.loop-place-test.true in
    let held = λ (places : Vec ℕ Global). places.items in
    elim c.if-is_kept.branch [
      | then-is_kept+in_ok-push w ↦ rw (e, w.if-is_kept.true) (ap held w.places-is ∙ w.in_ok-push.ensures.items ∙ ap (λ (o : List ℕ). o ++ place ∷ []) c.loop-place.invariant)
      | else-is_kept w ↦ rw (e, w.if-is_kept.false) (ap held w.places-is ∙ c.loop-place.invariant ∙ sym (append-nil _))
    ]
