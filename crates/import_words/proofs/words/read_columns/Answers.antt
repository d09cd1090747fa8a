use Rattle.std.proofs.Common.{List, ℕ, lit<, length, subst, sym}
use Rattle.std.proofs.lemmas.List.Elements.{Contains-get_or}
use Rattle.std.proofs.lemmas.Iterator.Consumers.{YieldsList-at, YieldsList-turn, YieldsList-end}
use Rattle.std.proofs.lemmas.Iterator.Splits.{YieldsList-from_str_split}
use Rattle.std.specs.List.{Contains}
use Rattle.import_words.specs.Files.{parts}
use Rattle.import_words.specs.Words.{AreColumns}
use Rattle.import_words.proofs.Found.{refused}
use Rattle.import_words.proofs.words.read_columns.Goals as goal

pub returns-in-Err : goal.returns-in-Err
returns-in-Err c =
    let road = YieldsList-from_str_split 44 c.args.word.now (lit< tt) c.split-one-items.ensures.text c.split-one-items.ensures.has_more c.split-one-items.ensures.pattern in
    let turn = YieldsList-turn (YieldsList-at c.into_iter-one-iterator.ensures.into_iter_gives road) c.loop-one.yielded _ c.loop-one.yielded_by _ _ c.in-Some.one c.in-Some.is c.next.ensures.steps in
    let there : Contains (parts c.args.word.now) c.in-Some.one.now = subst (λ (one : List ℕ). Contains (parts c.args.word.now) one) (sym turn.1) (Contains-get_or (parts c.args.word.now) (length c.loop-one.yielded) c.in-Some.one.now turn.0) in
    refused c.args.word.now c.refused_column.result c.refused_column.ensures (c.in-Some.one.now, c.in-Err.fault, there, c.in-Err.ensures)

pub returns : goal.returns
returns c =
    let road = YieldsList-from_str_split 44 c.args.word.now (lit< tt) c.split-one-items.ensures.text c.split-one-items.ensures.has_more c.split-one-items.ensures.pattern in
    let end = YieldsList-end (YieldsList-at c.into_iter-one-iterator.ensures.into_iter_gives road) c.loop-one.yielded _ c.loop-one.yielded_by _ _ c.in-None.is c.next.ensures.steps in
    subst (λ (words : List (List ℕ)). AreColumns words c.loop-one.columns.items) end.0 c.loop-one.invariant
