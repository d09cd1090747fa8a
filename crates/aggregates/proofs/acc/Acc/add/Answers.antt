use Rattle.std.proofs.Common.{◌≡◌, ◌≤◌, ◌<◌, ◌+◌, ◌^◌, ◌∙◌, [], arith, take, map, length, get_or, ap, sym, Some}
use Rattle.std.proofs.lemmas.List.{length-map}
use Rattle.plan_model.specs.declared.spec.Aggregate.{Aggregate}
use Rattle.plan_model.specs.Aggregates.{number_of, merge_numbers}
use Rattle.aggregates.specs.Kinds.{AccData, kind_of, merge_all}
use Rattle.aggregates.specs.Inside.{IsInside}
use Rattle.aggregates.proofs.Accs.{small_inside, one_of, one_is_inside, one_has_kinds, one_has_numbers, added_into, merged_inside, merged_view, merged_of, merge_numbers-kinds}
use Rattle.aggregates.proofs.acc.Acc.add.Goals as goal

pub add_into-requires-clause-small : goal.add_into-requires-clause-small
add_into-requires-clause-small c = small_inside c.self.inside c.self.invariant

pub invariant_of-self : goal.invariant_of-self
invariant_of-self c =
    let a = c.self.inside in
    let aggregates = c.as_slice.result.now in
    let record_ = get_or c.args.batch.now.rows c.args.row [] in
    let kinds : take a.width a.kinds ≡ map kind_of aggregates =
    ap (λ (d : AccData). d.kinds) c.self.view_is ∙ c.requires.same_kinds ∙ ap (map kind_of) (sym c.as_slice.ensures) in
    let places : length (take a.width a.kinds) ≡ length aggregates = ap length kinds ∙ length-map aggregates kind_of in
    let some : 1 ≤ length aggregates = let h = c.self.invariant.sound.some in omega (arith, places) in
    let most : length aggregates ≤ 8 = let h = c.self.invariant.sound.few in omega (arith, places) in
    let below : a.count < 2 ^ 41 = rw (ap (λ (d : AccData). d.total.count) c.self.view_is) c.requires.few in
    let few : a.count + 1 ≤ 2 ^ 41 = omega arith in
    merged_inside a (one_of aggregates record_) c.add_into.new.numbers c.self.invariant (one_is_inside aggregates record_ some most c.add_into.ensures.fit)
    (kinds ∙ sym (one_has_kinds aggregates record_)) few (added_into a aggregates record_ c.add_into.new.numbers kinds c.add_into.ensures.added)

pub returns-clause-sound : goal.returns-clause-sound
returns-clause-sound c =
    let inside : IsInside (record { count = c.self.inside.count + 1; width = c.self.inside.width; kinds = c.self.inside.kinds; numbers = c.add_into.new.numbers }) = invariant_of-self c in
    inside.sound

pub returns-clause-total : goal.returns-clause-total
returns-clause-total c =
    let a = c.self.inside in
    let aggregates = c.as_slice.result.now in
    let record_ = get_or c.args.batch.now.rows c.args.row [] in
    let f = λ (x : Aggregate). number_of x record_ [] in
    let kinds : take a.width a.kinds ≡ map kind_of aggregates =
    ap (λ (d : AccData). d.kinds) c.self.view_is ∙ c.requires.same_kinds ∙ ap (map kind_of) (sym c.as_slice.ensures) in
    let places : length (take a.width a.kinds) ≡ length aggregates = ap length kinds ∙ length-map aggregates kind_of in
    let some : 1 ≤ length aggregates = let h = c.self.invariant.sound.some in omega (arith, places) in
    let most : length aggregates ≤ 8 = let h = c.self.invariant.sound.few in omega (arith, places) in
    let numbers : take a.width c.add_into.new.numbers ≡ merged_of a (one_of aggregates record_) =
    merged_view a (one_of aggregates record_) c.add_into.new.numbers c.self.invariant (one_is_inside aggregates record_ some most c.add_into.ensures.fit)
    (kinds ∙ sym (one_has_kinds aggregates record_)) (added_into a aggregates record_ c.add_into.new.numbers kinds c.add_into.ensures.added) in
    let mine : take a.width a.kinds ≡ map kind_of c.args.w.now.aggregates = ap (λ (d : AccData). d.kinds) c.self.view_is ∙ c.requires.same_kinds in
    let one : take (length aggregates) (one_of aggregates record_).numbers ≡ map f c.args.w.now.aggregates = one_has_numbers aggregates record_ ∙ ap (map f) c.as_slice.ensures in
    let all : take a.width c.add_into.new.numbers ≡ merge_numbers c.args.w.now.aggregates c.args.self.now.total.numbers (map f c.args.w.now.aggregates) =
    numbers ∙ (λ i. merge_all (mine i) (c.self.view_is i).total.numbers (one i))
    ∙ sym (merge_numbers-kinds c.args.w.now.aggregates c.args.self.now.total.numbers (map f c.args.w.now.aggregates)) in
    λ i. Some (record { count = (c.self.view_is i).total.count + 1; numbers = all i })
