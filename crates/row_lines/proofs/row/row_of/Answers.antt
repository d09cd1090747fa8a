use Rattle.std.proofs.Common.{◌≡◌, ℕ, ◌<◌, false, eqb, sym, ◌∙◌, arith}
use Rattle.std.proofs.lemmas.Bool.Decides.{nat_tests}
use Rattle.row_lines.proofs.Texts.{row_of_three}
use Rattle.row_lines.proofs.row.row_of.Goals as goal

some_length : (n : ℕ) → eqb n 0 ≡ false → 0 < n
some_length n e = grind (arith, nat_tests)

pub returns : goal.returns
returns c = λ are.
    let values = c.in_ok-values_of.ensures in
    let some = some_length _ (sym c.is_empty.ensures ∙ c.if-is_empty.false) in
    row_of_three c.args.numbers.now c.in-Ok-Ok-Ok.start c.in-Ok-Ok-Ok.end c.in-Ok-Ok-Ok.key c.in_ok-values_of.field-0 are c.in-len3-up.len_at_least
    c.in-Ok-Ok-Ok.ensures c.in-Ok-Ok-Ok.ensures' c.in-Ok-Ok-Ok.ensures'' values (rw values some)
