use Rattle.std.proofs.Common.{arith, ◌≡◌, ◌-◌, length, take, ap, sym, ◌∙◌, drop, length-drop}
use Rattle.std.proofs.lemmas.Bool.Decides.{nat_tests}
use Rattle.std.proofs.lemmas.List.{take_all}
use Rattle.json_tokens.specs.Lexemes.{ends_number}
use Rattle.json_tokens.proofs.Lexemes.{digits_counted}
use Rattle.json_tokens.proofs.bytes.digits.Goals as goal
use Rattle.json_tokens.proofs.bytes.digits.Goals.{then-count-ne1, else-count-ne1}

pub returns : goal.returns
returns c =
    let t = c.args.text.now in
    let n = c.read_digits-count.result.0 in
    let over : take (length t - n) (drop n t) ≡ drop n t = take_all _ (drop n t) (omega (arith, length-drop n t)) in
    record {
      count = n;
      counted = omega (arith, c.read_digits-count.ensures.end);
      some = omega arith;
      no_zero = λ zero. elim c.if-count-ne1.branch [ then-count-ne1 w ↦ grind (arith, nat_tests) | else-count-ne1 w ↦ grind (arith, nat_tests) ];
      over = over;
      ends = ap ends_number (sym c.first-2.ensures) ∙ sym c.ends_number.ensures ∙ c.if-not-ends_number.false;
      says = digits_counted t n c.read_digits-count.result.1 c.read_digits-count.ensures.end (omega arith) c.read_digits-count.ensures.value;
    }
