use Rattle.std.proofs.Common.{◌≡◌, ◌++◌, ◌*◌, ℕ, ℤ, List, true, length, is_ok, Result, Ok, Err, OnOk, sym, ◌∙◌, ap, subst, rules}
use Rattle.std.specs.List.{All}
use Rattle.savepoint_codec.specs.declared.entries.Head.{Head}
use Rattle.savepoint_codec.specs.EntriesData.{EntryData, EntriesData}
use Rattle.savepoint_codec.specs.EntriesView.{entries_of}
use Rattle.savepoint_codec.specs.Numbers.{list_of}
use Rattle.savepoint_codec.proofs.EntriesFacts.{HasNumbers, entries_of-concat, width_of, widths_add}
use Rattle.savepoint_codec.proofs.entries.Entries.append.Goals as goal

-- the entries that come behind, with the width of those before
others : (c : goal.After-extend_from_slice) → (length (list_of c.more.inside.numbers) ≡ c.self.inside.width * length c.more.inside.heads.items)
    × (c.args.more.now.entries ≡ entries_of c.self.inside.width c.more.inside.heads.items (list_of c.more.inside.numbers))
others c =
    let e = c.self.inside in
    let m = c.more.inside in
    let wide = subst (λ (w : ℕ). All (HasNumbers w) c.args.more.now.entries) (sym (ap (λ (v : EntriesData). v.width) c.self.view_is)) c.requires in
    let each = subst (λ (v : EntriesData). All (HasNumbers e.width) v.entries) (sym c.more.view_is) wide in
    let is = width_of e.width m.width m.heads.items (list_of m.numbers) c.more.invariant each in
    (is.0, sym (ap (λ (v : EntriesData). v.entries) c.more.view_is) ∙ is.1)

-- there was room for the heads
heads_are : (c : goal.After-extend_from_slice) → c.extend_from_slice.new.self.items ≡ c.self.inside.heads.items ++ c.more.inside.heads.items
heads_are c =
    let fits : is_ok c.extend_from_slice.result ≡ true = search rules in
    (rw fits at c.extend_from_slice.ensures.items)
    ∙ ap (λ (hs : List Head). hs ++ c.deref.result.now) c.in_ok-reserve.ensures.items
    ∙ ap (λ (hs : List Head). c.self.inside.heads.items ++ hs) c.deref.ensures.value

numbers_are : (c : goal.After-extend_from_slice) → list_of c.extend.new.self ≡ list_of c.self.inside.numbers ++ list_of c.more.inside.numbers
numbers_are c = c.in_ok-extend.ensures.ok ∙ ap (λ (ns : List ℤ). list_of c.self.inside.numbers ++ ns) c.all.ensures

pub invariant_of-self-2 : goal.invariant_of-self-2
invariant_of-self-2 c =
    let e = c.self.inside in
    let m = c.more.inside in
    widths_add e.width e.heads.items m.heads.items _ (list_of e.numbers) (list_of m.numbers) _ (heads_are c) (numbers_are c) c.self.invariant (others c).0

if_ok : {T E P : Type 0} (r : Result T E) → P → OnOk r P
if_ok (Ok _) p = p
if_ok (Err _) p = tt

pub returns-clause-ok : goal.returns-clause-ok
returns-clause-ok c =
    let e = c.self.inside in
    let m = c.more.inside in
    let more = c.args.more.now.entries in
    let concat = entries_of-concat e.width e.heads.items m.heads.items (list_of e.numbers) (list_of m.numbers) c.self.invariant in
    let grown : entries_of e.width c.extend_from_slice.new.self.items (list_of c.extend.new.self) ≡ entries_of e.width e.heads.items (list_of e.numbers) ++ more =
    rw (heads_are c, numbers_are c, (others c).1) concat in
    let is = ap (λ (es : List EntryData). record { width = e.width; entries = es }) grown ∙ ap (λ (v : EntriesData). record v { entries = v.entries ++ more }) c.self.view_is in
    if_ok c.extend_from_slice.result is
