use Rattle.core.proofs.slice.Flagged.{flags_from_ten}
use Rattle.digit_words.proofs.FirstFlags.{first_flags}
use Rattle.digit_words.proofs.words.flags_from_ten.Goals as goal

pub returns : goal.returns
returns c = (_, flags_from_ten c.args.lanes, first_flags c.args.lanes c.ranges.lanes.fits)
