use Rattle.std.proofs.Common.{arith, ◌≡◌, ◌+◌, ◌*◌, ◌^◌, length, take, ap, ◌∙◌}
use Rattle.std.specs.List.{prefix_len}
use Rattle.std.specs.Char.{is_ascii_digit}
use Rattle.std.specs.Str.Parse.{digits_value}
use Rattle.std.proofs.lemmas.List.{take_rest}
use Rattle.digit_words.proofs.EightBytes.{digits_behind, value_behind}
use Rattle.digit_words.proofs.words.more_digits.Goals as goal

pub returns-clause-counted : goal.returns-clause-counted
returns-clause-counted c =
    digits_behind c.args.text.now c.in_ok-first_chunk.field-0.now c.in_ok-first_chunk.ensures.cases c.in_ok-count.count c.in_ok-first.ensures.counted (c.in_ok-count.ensures.counted ∙ ap (prefix_len is_ascii_digit) (take_rest c.args.text.now 8))

pub returns-clause-says : goal.returns-clause-says
returns-clause-says c =
    let n = c.in_ok-count.count in
    let both : c.in_ok-first.first * c.ten_to.result + c.in_ok-count.last ≡ c.in_ok-first.first * 10 ^ n + c.in_ok-count.last = ap (λ k. c.in_ok-first.first * k + c.in_ok-count.last) c.ten_to.ensures in
    both
    ∙ value_behind c.args.text.now c.in_ok-first_chunk.field-0.now c.in_ok-first_chunk.ensures.cases n c.in_ok-first.first c.in_ok-count.last c.in_ok-first.ensures.says (c.in_ok-count.ensures.says ∙ ap (λ l. digits_value 10 (take n l)) (take_rest c.args.text.now 8))
    (omega (arith, c.in_ok-count.ensures.more, ap length (take_rest c.args.text.now 8)))
