use Rattle.dealt_texts.proofs.Entries.{parts_have_their_entries}
use Rattle.dealt_texts.proofs.laws.parts_have_their_entries.Goals as goal

pub returns : goal.returns
returns c = parts_have_their_entries
