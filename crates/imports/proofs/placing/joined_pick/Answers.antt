use Rattle.std.proofs.Common.{◌≡◌, Bor, ℕ, List, Ok, Some, ap, arith, inr, length, map, slice_get, subst, sym, ◌∙◌}
use Rattle.std.proofs.lemmas.List.{length-map, take_all}
use Rattle.asked_fields.specs.Asked.{part_names}
use Rattle.csv.specs.Records.{fields_of}
use Rattle.imports.specs.Placing.{all_ok, once_at, places_of, together}
use Rattle.imports.proofs.Stands.{all_right, first_fault, part_once, right_more}
use Rattle.imports.proofs.placing.joined_pick.Goals as goal

pub returns-in-Err : goal.returns-in-Err
returns-in-Err c =
    let i = c.loop-part.part-index in
    let f = λ (name : List ℕ). once_at c.args.column (places_of (fields_of c.args.header.now) name) in
    let found = part_once c.args.column (fields_of c.args.header.now) c.deref-part-items.result.now i _ c.place_once.result c.place_once.ensures c.loop-part-test.true in
    let at : slice_get (map f (part_names c.args.field.now)) i ≡ Some c.place_once.result =
    subst (λ (parts : List (Bor (List ℕ))). slice_get (map f (map (λ (part : Bor (List ℕ)). part.now) parts)) i ≡ Some c.place_once.result) c.deref-part-items.ensures.value found in
    inr (ap (together c.args.field.now.joint) (first_fault (map f (part_names c.args.field.now)) c.loop-part.places.items i c.in-Err.fault c.loop-part.invariant (at ∙ ap (λ r. Some r) c.in-Err.is)))

pub loop-part-preserved : goal.loop-part-preserved
loop-part-preserved c =
    let i = c.loop-part.part-index in
    let f = λ (name : List ℕ). once_at c.args.column (places_of (fields_of c.args.header.now) name) in
    let found = part_once c.args.column (fields_of c.args.header.now) c.deref-part-items.result.now i _ c.place_once.result c.place_once.ensures c.loop-part-test.true in
    let at : slice_get (map f (part_names c.args.field.now)) i ≡ Some c.place_once.result =
    subst (λ (parts : List (Bor (List ℕ))). slice_get (map f (map (λ (part : Bor (List ℕ)). part.now) parts)) i ≡ Some c.place_once.result) c.deref-part-items.ensures.value found in
    right_more (map f (part_names c.args.field.now)) c.loop-part.places.items i c.in-Ok.place c.loop-part.invariant (at ∙ ap (λ r. Some r) c.in-Ok.is) ∙ ap (map Ok) (sym c.in_ok-push-in-Ok.ensures.items)

pub returns : goal.returns
returns c =
    let i = c.loop-part.part-index in
    let rs = map (λ (name : List ℕ). once_at c.args.column (places_of (fields_of c.args.header.now) name)) (part_names c.args.field.now) in
    let size : length rs ≡ length c.deref-part-items.result.now =
    length-map (part_names c.args.field.now) (λ (name : List ℕ). once_at c.args.column (places_of (fields_of c.args.header.now) name))
    ∙ length-map c.args.field.now.parts.items (λ (part : Bor (List ℕ)). part.now) ∙ sym (ap length c.deref-part-items.ensures.value) in
    ap (together c.args.field.now.joint) (ap all_ok (sym (take_all i rs (omega (arith, size, c.loop-part-test.false))) ∙ c.loop-part.invariant) ∙ all_right c.loop-part.places.items)
