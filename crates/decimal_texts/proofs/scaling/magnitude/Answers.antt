use Rattle.decimal_texts.specs.Exact.{held}
use Rattle.std.specs.Str.Parse.{digits_value}
use Rattle.std.proofs.Common.{ℕ, Some, ◌++◌, ◌*◌, ◌^◌, rules, ◌≡◌, ap, sym, ◌∙◌, true, refl}
use Rattle.std.specs.Char.{is_ascii_digit}
use Rattle.std.specs.List.{list_all}
use Rattle.std.proofs.lemmas.Bool.{and_parts}
use Rattle.decimal_texts.proofs.Shifts.{Parts, magnitude_there, magnitude_gone, kept_digits, held_is}
use Rattle.decimal_texts.proofs.scaling.magnitude.Goals as goal

pub returns-then-not-are_both_zeros : goal.returns-then-not-are_both_zeros
returns-then-not-are_both_zeros c =
    let parts : Parts c.args.whole.now c.args.decimals.now c.cut_off.result.0.now c.cut_off.result.1.now c.cut_off-2.result.0.now c.cut_off-2.result.1.now c.args.up c.args.down
    = record { front_is = cc; front_rest_is = cc; back_is = cc; back_rest_is = cc } in
    rw (magnitude_gone c.args.whole.now c.args.decimals.now _ _ _ _ c.args.up c.args.down parts c.requires.whole c.requires.decimals cc) refl

pub raised_number-requires-clause-front : goal.raised_number-requires-clause-front
raised_number-requires-clause-front c =
    let kept : list_all is_ascii_digit c.cut_off.result.0.now ≡ true = ap (list_all is_ascii_digit) c.cut_off.ensures.front ∙ (kept_digits c.args.whole.now _ c.requires.whole).0 in
    search rules

pub raised_number-requires-clause-back : goal.raised_number-requires-clause-back
raised_number-requires-clause-back c =
    let kept : list_all is_ascii_digit c.cut_off-2.result.0.now ≡ true = ap (list_all is_ascii_digit) c.cut_off-2.ensures.front ∙ (kept_digits c.args.decimals.now _ c.requires.decimals).0 in
    search rules

pub returns : goal.returns
returns c =
    let parts : Parts c.args.whole.now c.args.decimals.now c.cut_off.result.0.now c.cut_off.result.1.now c.cut_off-2.result.0.now c.cut_off-2.result.1.now c.args.up c.args.down
    = record { front_is = cc; front_rest_is = cc; back_is = cc; back_rest_is = cc } in
    let zeros = and_parts _ _ (sym c.are_both_zeros.ensures ∙ c.if-not-are_both_zeros.false) in
    let there = magnitude_there c.args.whole.now c.args.decimals.now _ _ _ _ c.args.up c.args.down parts c.requires.whole c.requires.decimals zeros.0 zeros.1 in
    let held_here = held_is c.raised_number.result _ c.raised_number.ensures in
    let places = ap (λ (k : ℕ). held (Some (digits_value 10 (c.cut_off.result.0.now ++ c.cut_off-2.result.0.now) * 10 ^ k))) c.saturating_sub-places.ensures in
    c.ok_or.ensures.value ∙ held_here ∙ places ∙ ap held (sym there)
