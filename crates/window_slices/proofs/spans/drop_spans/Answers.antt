use Rattle.std.proofs.Common.{rules, ◌≡◌, ℤ, ◌<ℤ◌, ◌≤ℤ◌, ◌+ℤ◌, true, false, sym, ◌∙◌, arith, FitsSigned, to_z, of_z}
use Rattle.std.specs.Int.{w128}
use Rattle.std.specs.Prelude.{int_le}
use Rattle.std.proofs.lemmas.Int.{ints, to_z-of_z}
use Rattle.window_slices.proofs.SpanDrops.{IsLeft, all_later, popped_left}
use Rattle.window_slices.proofs.spans.drop_spans.Goals as goal

le_from : (a b : ℤ) → int_le a b ≡ true → a ≤ℤ b
le_from a b h = grind (arith, ints)

lt_from : (a b : ℤ) → int_le a b ≡ false → b <ℤ a
lt_from a b h = grind (arith, ints)

pub returns-then-not-ends_by-clause-dropped : goal.returns-then-not-ends_by-clause-dropped
returns-then-not-ends_by-clause-dropped c =
    let w = c.args.w.now in
    let s = c.in-Some.span.now in
    let fits : FitsSigned w128 s = search rules in
    let ends : int_le (s +ℤ w.size) c.args.from ≡ false =
    (λ i. int_le (sym (to_z-of_z w128 s fits) i +ℤ w.size) (sym (to_z-of_z w128 c.args.from c.ranges.from) i)) ∙ sym c.ends_by.ensures ∙ c.if-not-ends_by.true in
    all_later w c.args.from s c.loop-span.spans.entries c.in-Some.ensures.all_from (lt_from _ _ ends)

pub loop-span-preserved-else-not-ends_by : goal.loop-span-preserved-else-not-ends_by
loop-span-preserved-else-not-ends_by c =
    let w = c.args.w.now in
    let held : ℤ = to_z w128 (of_z w128 c.args.from) in
    let s = c.in-Some.span.now in
    let fits : FitsSigned w128 s = search rules in
    let ends : int_le (s +ℤ w.size) held ≡ true = (λ i. int_le (sym (to_z-of_z w128 s fits) i +ℤ w.size) held) ∙ sym c.ends_by.ensures ∙ c.if-not-ends_by.false in
    let left : IsLeft w held c.loop-span.spans.entries c.pop_first.new.self.entries =
    popped_left w held c.pop_first.result c.loop-span.spans.entries c.pop_first.new.self.entries s c.in-Some.field-0-1.now c.requires.sized (le_from _ _ ends) c.in-Some.ensures.first
    c.pop_first.ensures.removal c.pop_first.ensures.all_above c.pop_first.ensures.unchanged in
    record { later = λ q late. left.later q late ∙ c.loop-span.invariant.later q late; kinds = λ kinds. left.kinds (c.loop-span.invariant.kinds kinds) }
