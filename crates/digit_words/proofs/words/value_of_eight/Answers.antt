use Rattle.core.proofs.dec2flt.Eight.{eight_is}
use Rattle.digit_words.proofs.words.value_of_eight.Goals as goal

pub returns-clause-value : goal.returns-clause-value
returns-clause-value c ds eight e = eight_is ds c.args.lanes eight e
