-- An accumulator's value gives its fields back.
use Rattle.std.specs.Prelude.{◌≡◌, ℕ, ◌≤◌, ◌-◌, List, take, length, replicate}
use Rattle.std.proofs.Common.{sym, ap, ◌∙◌, arith, length-append}
use Rattle.std.proofs.lemmas.List.{length-take, length-replicate}
use Rattle.aggregates.specs.declared.kind.Kind.TheVariants.{Count}
use Rattle.aggregates.specs.declared.acc.Acc.TheInside.{Inside}
use Rattle.aggregates.specs.Kinds.{padded}
use Rattle.aggregates.specs.Inside.{acc_view, acc_fields, IsInside}
use Rattle.plan_model.specs.declared.limits.TheConstants.{MOST_AGGREGATES}

pub length-padded : {X : Type 0} (d : X) (xs : List X) → length xs ≤ MOST_AGGREGATES → length (padded d xs) ≡ MOST_AGGREGATES
length-padded {X} d xs h = omega (arith, length-append xs (replicate (MOST_AGGREGATES - length xs) d), length-replicate (MOST_AGGREGATES - length xs) d)

-- eight places, of which so many are taken
pub length-front : {X : Type 0} (d : X) (xs : List X) (n : ℕ) → n ≤ MOST_AGGREGATES → xs ≡ padded d (take n xs) → length (take n xs) ≡ n
length-front {X} d xs n h is =
    let few : length (take n xs) ≤ MOST_AGGREGATES = omega (arith, length-take n xs) in
    let all : length xs ≡ MOST_AGGREGATES = ap (length {A = X}) is ∙ length-padded d (take n xs) few in
    omega (arith, length-take n xs)

pub fields_back : (a : Inside) → IsInside a → acc_fields (acc_view a) ≡ a
fields_back a h =
    let width : length (take a.width a.kinds) ≡ a.width = length-front Count a.kinds a.width h.width h.kinds in
    λ i. record { count = a.count; width = width i; kinds = sym h.kinds i; numbers = sym h.numbers i }
