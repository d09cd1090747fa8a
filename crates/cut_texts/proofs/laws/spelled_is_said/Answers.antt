use Rattle.cut_texts.proofs.Spelled.{spelled_is_said}
use Rattle.cut_texts.proofs.laws.spelled_is_said.Goals as goal

pub returns : goal.returns
returns c = spelled_is_said
