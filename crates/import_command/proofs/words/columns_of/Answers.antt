use Rattle.std.proofs.Common.{◌≡◌, List, ℕ, Option, Some, None, map, lit<, length, subst, sym}
use Rattle.std.proofs.lemmas.List.Elements.{Contains-get_or}
use Rattle.std.proofs.lemmas.Iterator.Consumers.{YieldsList-at, YieldsList-turn, YieldsList-end}
use Rattle.std.proofs.lemmas.Iterator.Splits.{YieldsList-from_str_split}
use Rattle.std.specs.List.{Contains}
use Rattle.import_columns.specs.declared.column.Column.{Column}
use Rattle.import_words.specs.Files.{parts}
use Rattle.import_words.specs.Judging.{IsRefusal}
use Rattle.import_words.specs.declared.refusal.ImportCode.TheVariants.{Columns}
use Rattle.import_words.specs.declared.refusal.ImportFault.{ImportFault}
use Rattle.import_words.specs.declared.refusal.ImportFault.TheVariants as fault
use Rattle.import_command.specs.Once.{column_of, RefusesFields}
use Rattle.import_command.proofs.words.columns_of.Goals as goal

refused : (columns : List Column) (fields : List (List ℕ)) (told : ImportFault) → IsRefusal Columns told → (field : List ℕ) → Contains fields field → column_of columns field ≡ None → RefusesFields columns fields told
refused columns fields (fault.Refused code sentence) h field there none = (h, field, there, none)
refused columns fields fault.Write h field there none = absurd h
refused columns fields fault.Memory h field there none = tt

pub returns-in-None-column_of : goal.returns-in-None-column_of
returns-in-None-column_of c =
    let road = YieldsList-from_str_split 44 c.args.word.now (lit< tt) c.split-field-items.ensures.text c.split-field-items.ensures.has_more c.split-field-items.ensures.pattern in
    let turn = YieldsList-turn (YieldsList-at c.into_iter-field-iterator.ensures.into_iter_gives road) c.loop-field.yielded _ c.loop-field.yielded_by _ _ c.in-Some.field c.in-Some.is c.next.ensures.steps in
    let there : Contains (parts c.args.word.now) c.in-Some.field.now = subst (λ (one : List ℕ). Contains (parts c.args.word.now) one) (sym turn.1) (Contains-get_or (parts c.args.word.now) (length c.loop-field.yielded) c.in-Some.field.now turn.0) in
    refused c.args.columns.now (parts c.args.word.now) c.refused_field.result c.refused_field.ensures c.in-Some.field.now there (sym c.in-None-column_of.ensures)

pub returns : goal.returns
returns c =
    let road = YieldsList-from_str_split 44 c.args.word.now (lit< tt) c.split-field-items.ensures.text c.split-field-items.ensures.has_more c.split-field-items.ensures.pattern in
    let end = YieldsList-end (YieldsList-at c.into_iter-field-iterator.ensures.into_iter_gives road) c.loop-field.yielded _ c.loop-field.yielded_by _ _ c.in-None.is c.next.ensures.steps in
    subst (λ (words : List (List ℕ)). map (column_of c.args.columns.now) words ≡ map (λ place. Some place) c.loop-field.found.items) end.0 c.loop-field.invariant
