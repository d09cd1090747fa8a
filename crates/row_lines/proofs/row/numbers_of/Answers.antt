use Rattle.std.proofs.Common.{◌≡◌, ℕ, ℤ, ◌≤◌, ◌++◌, ◌∷◌, [], List, length, map, eqb, true, false, FitsSigned, sym, ap, subst, ◌∙◌, arith, rules, tests, to_z, of_z}
use mir.Syntax.{w128}
use Rattle.std.specs.Fmt.{signed_decimal}
use Rattle.std.specs.List.{All, slice_split, join_with_byte}
use Rattle.std.proofs.lemmas.Bool.Decides.{nat_tests}
use Rattle.std.proofs.lemmas.Int.{to_z-of_z}
use Rattle.std.proofs.lemmas.List.{map-append, length-map}
use Rattle.std.proofs.lemmas.List.Elements.{All-push, All-map, All-weaker, All-get_or}
use Rattle.std.proofs.lemmas.List.Splits.{length-slice_split, join_with_byte-slice_split}
use Rattle.std.proofs.lemmas.Iterator.Splits.{YieldsList-from_slice_split}
use Rattle.row_lines.proofs.Parts.{part_there, all_parts}
use Rattle.row_lines.proofs.Texts.{split_numbers}
use Rattle.row_lines.proofs.row.numbers_of.Goals as goal

-- the text is how some number is printed
abbrev IsPrinted : List ℕ → Type 0
IsPrinted text = (z : ℤ) × FitsSigned w128 z × (text ≡ signed_decimal z)

printed : (numbers : List ℤ) → All (FitsSigned w128) numbers → All IsPrinted (map signed_decimal numbers)
printed numbers fit = All-map IsPrinted signed_decimal numbers (All-weaker (FitsSigned w128) (λ z. IsPrinted (signed_decimal z)) (λ z h. (z, h, λ _. signed_decimal z)) numbers fit)

full_length : (n : ℕ) → eqb n 11 ≡ true → n ≡ 11
full_length n e = grind (arith, nat_tests)

spare_length : (n : ℕ) → n ≤ 11 → eqb n 11 ≡ false → n ≤ 10
spare_length n few e = grind (arith, nat_tests)

pub returns-in_default : goal.returns-in_default
returns-in_default c = λ numbers are is.
    let text = c.args.text.now in
    let parts = slice_split (λ b. eqb b 32) text in
    let turn = part_there c.loop-part.yielded _ c.loop-part.yielded_by c.into_iter-part-iterator.ensures.into_iter_gives
    (YieldsList-from_slice_split _ (λ b. eqb b 32) text c.split-part-items.ensures.rest c.split-part-items.ensures.done c.split-part-items.ensures.closure (λ x r q k. search (rules, tests))) _ _ c.in-Some.part c.in-Some.is c.next.ensures.steps in
    let same : parts ≡ map signed_decimal numbers = ap (slice_split (λ b. eqb b 32)) is ∙ split_numbers numbers are.some in
    let all : All IsPrinted parts = subst (λ (ts : List (List ℕ)). All IsPrinted ts) (sym same) (printed numbers are.fit) in
    let one : IsPrinted c.in-Some.part.now = subst IsPrinted (sym turn.1) (All-get_or IsPrinted parts (length c.loop-part.yielded) c.in-Some.part.now turn.0 all) in
    c.in_default.ensures one.0 one.1 one.2

pub returns-then-is_full : goal.returns-then-is_full
returns-then-is_full c = λ numbers are is.
    let text = c.args.text.now in
    let parts = slice_split (λ b. eqb b 32) text in
    let turn = part_there c.loop-part.yielded _ c.loop-part.yielded_by c.into_iter-part-iterator.ensures.into_iter_gives
    (YieldsList-from_slice_split _ (λ b. eqb b 32) text c.split-part-items.ensures.rest c.split-part-items.ensures.done c.split-part-items.ensures.closure (λ x r q k. search (rules, tests))) _ _ c.in-Some.part c.in-Some.is c.next.ensures.steps in
    let same : parts ≡ map signed_decimal numbers = ap (slice_split (λ b. eqb b 32)) is ∙ split_numbers numbers are.some in
    let long : length parts ≡ length numbers = ap length same ∙ length-map numbers signed_decimal in
    let so_far : length c.loop-part.numbers.items ≡ length c.loop-part.yielded = sym (length-map c.loop-part.numbers.items signed_decimal) ∙ ap length c.loop-part.invariant.texts ∙ length-map c.loop-part.yielded (λ part. part.now) in
    let few = are.few in
    let full : length c.loop-part.numbers.items ≡ 11 = full_length _ (sym c.is_full.ensures.value ∙ c.if-is_full.true) in
    omega (arith, turn.0)

pub loop-part-preserved : goal.loop-part-preserved
loop-part-preserved c =
    let items = c.loop-part.numbers.items in
    let number = c.in-Some-number_of.number in
    let fits = c.in-Some-number_of.ensures.0 in
    let back : to_z w128 (of_z w128 number) ≡ number = to_z-of_z w128 number fits in
    let pushed : c.push.new.self.items ≡ items ++ number ∷ [] = cc in
    record {
      texts =
          ap (map signed_decimal) pushed ∙ map-append signed_decimal items (number ∷ [])
          ∙ (λ i. c.loop-part.invariant.texts i ++ sym c.in-Some-number_of.ensures.1 i ∷ [])
          ∙ sym (map-append (λ part. part.now) c.loop-part.yielded (c.in-Some.part ∷ []));
      fit = subst (All (FitsSigned w128)) (sym pushed) (All-push (FitsSigned w128) items number c.loop-part.invariant.fit fits);
      few = let below : length items ≤ 10 = spare_length _ c.is_full.ensures.fits (sym c.is_full.ensures.value ∙ c.if-is_full.false) in omega (arith, c.push.ensures.len);
    }

pub returns : goal.returns
returns c =
    let text = c.args.text.now in
    let items = c.loop-part.numbers.items in
    let end = all_parts c.loop-part.yielded _ c.loop-part.yielded_by c.into_iter-part-iterator.ensures.into_iter_gives
    (YieldsList-from_slice_split _ (λ b. eqb b 32) text c.split-part-items.ensures.rest c.split-part-items.ensures.done c.split-part-items.ensures.closure (λ x r q k. search (rules, tests))) _ _ c.in-None.is c.next.ensures.steps in
    let count = length-slice_split (λ b. eqb b 32) text in
    let so_far : length items ≡ length c.loop-part.yielded = sym (length-map items signed_decimal) ∙ ap length c.loop-part.invariant.texts ∙ length-map c.loop-part.yielded (λ part. part.now) in
    (record { some = omega (arith, end.1, count); few = c.loop-part.invariant.few; fit = c.loop-part.invariant.fit }, sym (join_with_byte-slice_split 32 text) ∙ ap (join_with_byte 32) (sym end.0 ∙ sym c.loop-part.invariant.texts))
