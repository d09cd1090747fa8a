use Rattle.command_line.proofs.words.version_words.Goals as goal

pub returns : goal.returns
returns c = c.named.ensures
