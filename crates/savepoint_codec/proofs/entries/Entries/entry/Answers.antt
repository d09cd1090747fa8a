use Rattle.std.proofs.Common.{◌≡◌, ◌<◌, ◌*◌, List, ℤ, length, slice_get, Some, take, drop, refl, sym, ◌∙◌, ap, arith, rules}
use Rattle.std.proofs.lemmas.Option.{slice_get_read}
use Rattle.savepoint_codec.specs.EntriesData.{EntriesData}
use Rattle.savepoint_codec.specs.EntriesView.{entry_of}
use Rattle.savepoint_codec.specs.Numbers.{list_of, numbers_of}
use Rattle.savepoint_codec.proofs.EntriesFacts.{length-entries_of, entries_of-get, is_within}
use Rattle.savepoint_codec.proofs.entries.Entries.entry.Goals as goal

pub index-head-requires : goal.index-head-requires
index-head-requires c =
    let e = c.self.inside in
    let all = ap (λ (v : EntriesData). length v.entries) c.self.view_is in
    omega (arith, length-entries_of e.width e.heads.items (list_of e.numbers))

pub overflow_mul-i : goal.overflow_mul-i
overflow_mul-i c =
    let e = c.self.inside in
    let all = ap (λ (v : EntriesData). length v.entries) c.self.view_is in
    let below : c.args.i < length e.heads.items = omega (arith, length-entries_of e.width e.heads.items (list_of e.numbers)) in
    let part = is_within e.width c.args.i (length e.heads.items) (length (list_of e.numbers)) below c.self.invariant in
    search rules

pub part-requires : goal.part-requires
part-requires c =
    let e = c.self.inside in
    let all = ap (λ (v : EntriesData). length v.entries) c.self.view_is in
    let below : c.args.i < length e.heads.items = omega (arith, length-entries_of e.width e.heads.items (list_of e.numbers)) in
    let part = is_within e.width c.args.i (length e.heads.items) (length (list_of e.numbers)) below c.self.invariant in
    omega arith

pub returns : goal.returns
returns c =
    let e = c.self.inside in
    let all = ap (λ (v : EntriesData). length v.entries) c.self.view_is in
    let below : c.args.i < length e.heads.items = omega (arith, length-entries_of e.width e.heads.items (list_of e.numbers)) in
    let head : slice_get e.heads.items c.args.i ≡ Some c.index-head.result.now = slice_get_read e.heads.items (length e.heads.items) c.args.i _ refl below c.index-head.ensures in
    let numbers : numbers_of c.part.result ≡ take e.width (drop (c.args.i * e.width) (list_of e.numbers)) = c.part.ensures in
    ap (λ (v : EntriesData). slice_get v.entries c.args.i) (sym c.self.view_is) ∙ entries_of-get e.width e.heads.items (list_of e.numbers) c.args.i c.index-head.result.now head
    ∙ ap (λ (ns : List ℤ). Some (entry_of c.index-head.result.now ns)) (sym numbers)
