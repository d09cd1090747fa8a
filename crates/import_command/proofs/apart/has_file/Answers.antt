use Rattle.std.proofs.Common.{rules, tests, bytes_eq, lit<}
use Rattle.std.proofs.lemmas.Iterator.Search.{any_from_yields_List}
use Rattle.std.proofs.lemmas.Iterator.Splits.{YieldsList-from_str_split}
use Rattle.std.specs.List.{list_any}
use Rattle.import_words.specs.Files.{names_in}
use Rattle.import_command.proofs.apart.has_file.Goals as goal

pub returns : goal.returns
returns c = any_from_yields_List (λ part. list_any (bytes_eq c.args.path.now) (names_in part)) _ _ c.any.result c.any.ensures.ran (YieldsList-from_str_split 44 c.args.files.now (lit< tt) c.split.ensures.text c.split.ensures.has_more c.split.ensures.pattern) (λ x b q k. search (rules, tests))
