use Rattle.std.proofs.Common.{◌≡◌, ap, subst, sym, ◌∙◌}
use Rattle.std.specs.List.{All}
use Rattle.savepoint_codec.specs.EntriesData.{EntriesData}
use Rattle.savepoint_codec.specs.Numbers.{list_of}
use Rattle.savepoint_codec.proofs.EntriesFacts.{HasNumbers, each_is_wide}
use Rattle.savepoint_codec.proofs.entries.Entries.copy.Goals as goal

pub append-requires : goal.append-requires
append-requires c =
    let e = c.self.inside in
    let width = ap (λ (v : EntriesData). v.width) c.new-copied.ensures in
    subst (λ (v : EntriesData). All (HasNumbers c.new-copied.result.width) v.entries) c.self.view_is
    (subst (λ w. All (HasNumbers w) (Rattle.savepoint_codec.specs.EntriesView.entries_of e.width e.heads.items (list_of e.numbers))) (sym width) (each_is_wide e.width e.heads.items (list_of e.numbers) c.self.invariant))
