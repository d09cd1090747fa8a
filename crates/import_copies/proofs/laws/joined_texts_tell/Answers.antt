use Rattle.asked_fields.proofs.Injective.{same_texts}
use Rattle.import_copies.proofs.laws.joined_texts_tell.Goals as goal

pub returns : goal.returns
returns c = same_texts
