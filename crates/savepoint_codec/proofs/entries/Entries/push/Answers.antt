use Rattle.std.proofs.Common.{◌≡◌, ◌∷◌, [], ◌++◌, List, sym, ◌∙◌, ap}
use Rattle.std.proofs.Math.Nat.{mul-one}
use Rattle.savepoint_codec.specs.declared.entries.Head.{Head}
use Rattle.savepoint_codec.specs.EntriesData.{EntryData, EntriesData}
use Rattle.savepoint_codec.specs.EntriesView.{entries_of, entry_data}
use Rattle.savepoint_codec.specs.Numbers.{list_of, numbers_of}
use Rattle.savepoint_codec.proofs.EntriesFacts.{entries_of-append, widths_add}
use Rattle.savepoint_codec.proofs.entries.Entries.push.Goals as goal

pub invariant_of-self-2 : goal.invariant_of-self-2
invariant_of-self-2 c =
    let e = c.self.inside in
    let head : Head = record { pane = c.args.entry.pane; count = c.args.entry.count } in
    let heads = c.push_reserved.ensures.items ∙ ap (λ (hs : List Head). hs ++ head ∷ []) c.in_ok-reserve.ensures.items in
    let same = c.requires ∙ sym (ap (λ (v : EntriesData). v.width) c.self.view_is) in
    widths_add e.width e.heads.items (head ∷ []) _ (list_of e.numbers) (numbers_of c.args.entry.numbers) _ heads c.in_ok-extend.ensures.ok c.self.invariant (same ∙ sym (mul-one e.width))

pub returns-clause-ok : goal.returns-clause-ok
returns-clause-ok c =
    let e = c.self.inside in
    let x = entry_data c.args.entry in
    let head : Head = record { pane = c.args.entry.pane; count = c.args.entry.count } in
    let heads = c.push_reserved.ensures.items ∙ ap (λ (hs : List Head). hs ++ head ∷ []) c.in_ok-reserve.ensures.items in
    let same = c.requires ∙ sym (ap (λ (v : EntriesData). v.width) c.self.view_is) in
    let grown : entries_of e.width c.push_reserved.new.self.items (list_of c.extend.new.self) ≡ entries_of e.width e.heads.items (list_of e.numbers) ++ x ∷ [] =
    rw (heads, c.in_ok-extend.ensures.ok) (entries_of-append e.width e.heads.items (list_of e.numbers) head (numbers_of c.args.entry.numbers) c.self.invariant same) in
    ap (λ (es : List EntryData). record { width = e.width; entries = es }) grown ∙ ap (λ (v : EntriesData). record v { entries = v.entries ++ x ∷ [] }) c.self.view_is
