use Rattle.std.proofs.Common.{arith, ◌<◌, ◌/◌, sym, ◌∙◌}
use lib.Count.{count_trailing_zeros}
use Rattle.core.proofs.dec2flt.Eight.{all_digits, bytes_of, bytes_up, lanes_are, first_other, shifted_is}
use Rattle.core.specs.Dec2flt.Digits.{IsEightBytes}
use Rattle.digit_words.proofs.EightBytes.{word_of_eight}
use Rattle.digit_words.proofs.FirstFlags.{first_of_flags}
use Rattle.digit_words.proofs.words.digits_in.Goals as goal

pub returns-clause-counted : goal.returns-clause-counted
returns-clause-counted c =
    let bs = c.args.bytes.now in
    let eight : IsEightBytes bs = (c.told-bytes, bytes_of bs c.fits-bytes) in
    let is = c.from_le_bytes-lanes.ensures ∙ word_of_eight bs c.told-bytes in
    let told = c.flags_from_ten-others.ensures in
    sym (first_of_flags _ _ _ told.2 (omega (arith, c.if-others-eq0.false)) (first_other bs _ eight is told.0 told.1)).0

pub returns-clause-says : goal.returns-clause-says
returns-clause-says c =
    let bs = c.args.bytes.now in
    let eight : IsEightBytes bs = (c.told-bytes, bytes_of bs c.fits-bytes) in
    let is = c.from_le_bytes-lanes.ensures ∙ word_of_eight bs c.told-bytes in
    let told = c.flags_from_ten-others.ensures in
    let first = first_of_flags _ _ _ told.2 (omega (arith, c.if-others-eq0.false)) (first_other bs _ eight is told.0 told.1) in
    let count = count_trailing_zeros 64 c.flags_from_ten-others.result / 8 in
    let few : count < 8 = first.1 in
    let s = shifted_is bs count _ eight (omega (arith, first.0)) (omega (arith, few)) (bytes_up _ count few ∙ rw (lanes_are bs _ eight is)) in
    c.value_of_eight.ensures.value s.0 s.1 s.2 ∙ s.3

pub returns-then-others-eq0-clause-none : goal.returns-then-others-eq0-clause-none
returns-then-others-eq0-clause-none c =
    let bs = c.args.bytes.now in
    let eight : IsEightBytes bs = (c.told-bytes, bytes_of bs c.fits-bytes) in
    let is = c.from_le_bytes-lanes.ensures ∙ word_of_eight bs c.told-bytes in
    let told = c.flags_from_ten-others.ensures in
    all_digits bs _ eight is told.0 told.1 (told.2.none c.if-others-eq0.true)
