use Rattle.std.proofs.Common.{rules, arith, ℕ, ◌≡◌, ◌≤◌, ◌<◌, ◌+◌, ◌/◌, ◌%◌, ◌^◌, ◌∷◌, [], ◌++◌, drop, length, sym, ap, subst, ◌∙◌, append-nil}
use Rattle.std.proofs.lemmas.Fmt.{decimal_nonempty, length-decimal-le}
use Rattle.std.proofs.lemmas.List.{drop_all}
use Rattle.std.proofs.Math.Nat.{one-le-pow, pow-le-pow_right, div-le_self, mod-lt}
use Rattle.std.specs.Fmt.{decimal}
use Rattle.row_tables.specs.Decimals.{size_text}
use Rattle.row_tables.proofs.decimal.fill_size.Goals as goal

-- both parts of a size have few digits, the second with a one before it
few_digits : (size places scale : ℕ) → size ≤ 2 ^ 63 → places ≤ 18 → scale ≡ 10 ^ places → (length (decimal (scale + size % scale)) ≤ 19) × (length (decimal (size / scale)) ≤ 19)
few_digits size places scale small few is =
    let one = one-le-pow places 10 (omega arith) in
    let power : 10 ^ places ≤ 10 ^ 18 = pow-le-pow_right (omega arith) few in
    let part : size % scale < scale = mod-lt size (omega (arith, one, is)) in
    let whole : size / scale ≤ size = div-le_self size scale in
    (length-decimal-le 19 (scale + size % scale) (omega arith) (omega (arith, part, power, is)) (omega (arith, part, power, is)), length-decimal-le 19 (size / scale) (omega arith) (omega (arith, whole, small)) (omega (arith, whole, small)))

pub write_digits-requires : goal.write_digits-requires
write_digits-requires c = (omega (arith, length-decimal-le 19 c.args.size (omega arith) (omega arith) (omega arith)), search rules)

pub returns-then-places-eq0-clause-some : goal.returns-then-places-eq0-clause-some
returns-then-places-eq0-clause-some c = omega (arith, c.write_digits.ensures.start, length-decimal-le 19 c.args.size (omega arith) (omega arith) (omega arith))

pub returns-then-places-eq0-clause-text : goal.returns-then-places-eq0-clause-text
returns-then-places-eq0-clause-text c =
    let size = c.args.size in
    let written : drop c.write_digits.result c.write_digits.new.buf ≡ decimal size = c.write_digits.ensures.written ∙ ap (λ l. decimal size ++ l) (drop_all 48 c.args.room.now (omega arith)) ∙ append-nil (decimal size) in
    written ∙ sym (ap (λ p. size_text p size) c.if-places-eq0.true)

pub nonzero_rem-size : goal.nonzero_rem-size
nonzero_rem-size c =
    let some = one-le-pow c.args.places 10 (omega arith) in
    search rules

pub fill_part-point-requires-clause-part : goal.fill_part-point-requires-clause-part
fill_part-point-requires-clause-part c = mod-lt c.args.size (nonzero_rem-size c)

pub fill_part-point-requires-clause-scale : goal.fill_part-point-requires-clause-scale
fill_part-point-requires-clause-scale c =
    let high : 10 ^ c.args.places ≤ 10 ^ 18 = pow-le-pow_right (omega arith) c.requires.places in
    search rules

pub nonzero_div-size : goal.nonzero_div-size
nonzero_div-size c =
    let some = one-le-pow c.args.places 10 (omega arith) in
    search rules

pub write_digits-requires-2 : goal.write_digits-requires-2
write_digits-requires-2 c =
    let few = few_digits c.args.size c.args.places c.pow-scale.result c.requires.size c.requires.places c.pow-scale.ensures in
    (omega (arith, c.fill_part-point.ensures.place, few.0, few.1), search rules)

pub returns-clause-some : goal.returns-clause-some
returns-clause-some c =
    let few = few_digits c.args.size c.args.places c.pow-scale.result c.requires.size c.requires.places c.pow-scale.ensures in
    omega (arith, c.fill_part-point.ensures.place, few.0, c.write_digits-2.ensures.start, few.1)
