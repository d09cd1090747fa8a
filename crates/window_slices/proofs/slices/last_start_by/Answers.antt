use Rattle.std.proofs.Common.{arith}
use Rattle.std.proofs.lemmas.Int.{ints}
use Rattle.window_slices.proofs.Fits.{last_start_is}
use Rattle.window_slices.proofs.slices.last_start_by.Goals as goal

pub returns-clause-value : goal.returns-clause-value
returns-clause-value c =
    let low = c.rem_euclid.ensures.lower_bound in
    let high = c.rem_euclid.ensures.upper_bound in
    let few = c.requires.window.slide_small in
    let some = c.requires.window.slides in
    last_start_is c.args.window.now c.args.number c.requires.window c.requires.above c.requires.below c.rem_euclid.result c.rem_euclid.ensures.value
    (omega (arith, ints, low)) (omega (arith, ints, high, few, some))
