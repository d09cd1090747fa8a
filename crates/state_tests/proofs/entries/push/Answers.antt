use Rattle.std.proofs.Common.{◌≡◌, length, sym, subst}
use Rattle.std.specs.List.{All}
use Rattle.std.proofs.lemmas.List.Elements.{All-push}
use Rattle.savepoint_codec.specs.EntriesData.{EntryData, EntriesData}
use Rattle.state_tests.proofs.entries.push.Goals as goal

pub returns-clause-each : goal.returns-clause-each
returns-clause-each c = λ each.
    let HasTwo : EntryData → Type 0 = λ e. length e.total.numbers ≡ 2 in
    let old = c.args.entries.now.entries in
    subst (λ (v : EntriesData). All HasTwo v.entries) (sym c.in_ok-push.ensures.ok) (All-push HasTwo old _ each c.requires.two)
