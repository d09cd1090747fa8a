use Rattle.std.proofs.lemmas.Iterator.Consumers.{count_from_yields_List}
use Rattle.std.proofs.lemmas.Iterator.Splits.{YieldsList-from_str_split}
use Rattle.import_columns.proofs.placing.count_of.Goals as goal

pub returns : goal.returns
returns c = count_from_yields_List _ c.count.result c.count.ensures.ran (YieldsList-from_str_split c.args.mark c.args.name.now c.requires c.split.ensures.text c.split.ensures.has_more c.split.ensures.pattern)
