use Rattle.std.proofs.Common.{arith, ◌<◌, ◌^◌, rules, ap, ◌∙◌}
use Rattle.std.specs.Str.Parse.{digits_value}
use Rattle.std.proofs.lemmas.List.{take_all}
use lib.Bits.{bit_xor, xor_lt}
use Rattle.core.proofs.dec2flt.Eight.{all_digits, bytes_of, first_other, lanes_are, shifted_is}
use Rattle.core.specs.Dec2flt.Digits.{IsEightBytes}
use Rattle.digit_words.proofs.EightBytes.{word_of_eight}
use Rattle.digit_words.proofs.words.eight_digits.Goals as goal

pub returns-clause-counted : goal.returns-clause-counted
returns-clause-counted c =
    let bs = c.args.bytes.now in
    let eight : IsEightBytes bs = (c.told-bytes, bytes_of bs c.fits-bytes) in
    let is = c.from_le_bytes-lanes.ensures ∙ word_of_eight bs c.told-bytes in
    let told = c.flags_from_ten.ensures in
    all_digits bs _ eight is told.0 told.1 (told.2.none (omega (arith, c.if-flags_from_ten-ne0.false)))

pub returns-clause-says : goal.returns-clause-says
returns-clause-says c =
    let bs = c.args.bytes.now in
    let eight : IsEightBytes bs = (c.told-bytes, bytes_of bs c.fits-bytes) in
    let is = c.from_le_bytes-lanes.ensures ∙ word_of_eight bs c.told-bytes in
    let told = c.flags_from_ten.ensures in
    let all = all_digits bs _ eight is told.0 told.1 (told.2.none (omega (arith, c.if-flags_from_ten-ne0.false))) in
    let word = bit_xor c.from_le_bytes-lanes.result 0x3030_3030_3030_3030 in
    let small : word < 2 ^ 64 = xor_lt 64 c.from_le_bytes-lanes.result 0x3030_3030_3030_3030 (search rules) (omega arith) in
    let s = shifted_is bs 8 word eight (omega (arith, all)) (omega arith) (omega (arith, small, lanes_are bs _ eight is)) in
    c.value_of_eight.ensures.value s.0 s.1 s.2 ∙ s.3 ∙ ap (digits_value 10) (take_all 8 bs (omega (arith, c.told-bytes)))

pub returns-then-flags_from_ten-ne0-clause-none : goal.returns-then-flags_from_ten-ne0-clause-none
returns-then-flags_from_ten-ne0-clause-none c =
    let bs = c.args.bytes.now in
    let eight : IsEightBytes bs = (c.told-bytes, bytes_of bs c.fits-bytes) in
    let is = c.from_le_bytes-lanes.ensures ∙ word_of_eight bs c.told-bytes in
    let told = c.flags_from_ten.ensures in
    let first = first_other bs _ eight is told.0 told.1 (told.2.some (omega (arith, c.if-flags_from_ten-ne0.true))) in
    omega (arith, first.0, first.1)
