use Rattle.std.proofs.Common.{◌≡◌, ℕ, List, map, string_bytes, lit<, subst}
use Rattle.std.proofs.lemmas.Iterator.Consumers.{YieldsList-at, YieldsList-end}
use Rattle.std.proofs.lemmas.Iterator.Splits.{YieldsList-from_str_split}
use Rattle.import_words.specs.Files.{names_in}
use Rattle.import_words.proofs.files.file_lists.Goals as goal

pub returns : goal.returns
returns c =
    let road = YieldsList-from_str_split 44 c.args.text.now (lit< tt) c.split-part-items.ensures.text c.split-part-items.ensures.has_more c.split-part-items.ensures.pattern in
    let end = YieldsList-end (YieldsList-at c.into_iter-part-iterator.ensures.into_iter_gives road) c.loop-part.yielded _ c.loop-part.yielded_by _ _ c.in-None.is c.next.ensures.steps in
    subst (λ (parts : List (List ℕ)). map (λ list. map string_bytes list.items) c.loop-part.lists.items ≡ map names_in parts) end.0 c.loop-part.invariant
