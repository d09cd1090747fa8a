use Rattle.std.proofs.Common.{◌≡◌, ◌≤◌, ◌+◌, ◌^◌, ◌∙◌, take, ap, sym, Some}
use Rattle.plan_model.specs.Aggregates.{merge_numbers}
use Rattle.aggregates.specs.declared.acc.Acc.TheInside.{Inside}
use Rattle.aggregates.specs.Kinds.{AccData, merge_all}
use Rattle.aggregates.specs.Inside.{acc_view}
use Rattle.aggregates.proofs.Accs.{small_inside, merged_inside, merged_view, merged_of, merge_numbers-kinds}
use Rattle.aggregates.proofs.acc.Acc.merge.Goals as goal

pub merge_into-requires-clause-small : goal.merge_into-requires-clause-small
merge_into-requires-clause-small c = small_inside c.self.inside c.self.invariant

pub merge_into-requires-clause-others_small : goal.merge_into-requires-clause-others_small
merge_into-requires-clause-others_small c = small_inside c.other.inside c.other.invariant

-- the kinds of the two, by their fields
kinds_alike : (a b : Inside) (x y : AccData) → acc_view a ≡ x → acc_view b ≡ y → x.kinds ≡ y.kinds → take a.width a.kinds ≡ take b.width b.kinds
kinds_alike a b x y is is' same = ap (λ (d : AccData). d.kinds) is ∙ same ∙ sym (ap (λ (d : AccData). d.kinds) is')

pub invariant_of-self : goal.invariant_of-self
invariant_of-self c =
    let few : c.self.inside.count + c.other.inside.count ≤ 2 ^ 41 =
    rw (ap (λ (a : AccData). a.total.count) c.self.view_is, ap (λ (a : AccData). a.total.count) c.other.view_is) c.requires.few in
    merged_inside c.self.inside c.other.inside c.merge_into.new.numbers c.self.invariant c.other.invariant
    (kinds_alike c.self.inside c.other.inside c.args.self.now c.args.other.now c.self.view_is c.other.view_is c.requires.same_kinds) few c.merge_into.ensures

pub returns-clause-sound : goal.returns-clause-sound
returns-clause-sound c =
    let few : c.self.inside.count + c.other.inside.count ≤ 2 ^ 41 =
    rw (ap (λ (a : AccData). a.total.count) c.self.view_is, ap (λ (a : AccData). a.total.count) c.other.view_is) c.requires.few in
    (merged_inside c.self.inside c.other.inside c.merge_into.new.numbers c.self.invariant c.other.invariant
    (kinds_alike c.self.inside c.other.inside c.args.self.now c.args.other.now c.self.view_is c.other.view_is c.requires.same_kinds) few c.merge_into.ensures).sound

pub returns-clause-total : goal.returns-clause-total
returns-clause-total c = λ aggregates same.
    let a = c.self.inside in
    let b = c.other.inside in
    let numbers : take a.width c.merge_into.new.numbers ≡ merged_of a b =
    merged_view a b c.merge_into.new.numbers c.self.invariant c.other.invariant
    (kinds_alike a b c.args.self.now c.args.other.now c.self.view_is c.other.view_is c.requires.same_kinds) c.merge_into.ensures in
    let parts : merged_of a b ≡ merge_numbers aggregates c.args.self.now.total.numbers c.args.other.now.total.numbers =
    (λ i. merge_all (c.self.view_is i).kinds (c.self.view_is i).total.numbers (c.other.view_is i).total.numbers)
    ∙ ap (λ ks. merge_all ks c.args.self.now.total.numbers c.args.other.now.total.numbers) (sym same)
    ∙ sym (merge_numbers-kinds aggregates c.args.self.now.total.numbers c.args.other.now.total.numbers) in
    let all : take a.width c.merge_into.new.numbers ≡ merge_numbers aggregates c.args.self.now.total.numbers c.args.other.now.total.numbers = numbers ∙ parts in
    λ i. Some (record { count = (c.self.view_is i).total.count + (c.other.view_is i).total.count; numbers = all i })
