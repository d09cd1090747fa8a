use Rattle.job_texts.proofs.Unique.{IsTextOf-unique}
use Rattle.job_texts.proofs.laws.text_is_determined.Goals as goal

pub returns : goal.returns
returns c = IsTextOf-unique
