use Rattle.std.proofs.Common.{ap, arith, length}
use Rattle.savepoint_codec.specs.EntriesData.{EntriesData}
use Rattle.savepoint_codec.specs.Numbers.{list_of}
use Rattle.savepoint_codec.proofs.EntriesFacts.{length-entries_of}
use Rattle.savepoint_codec.proofs.entries.Entries.len.Goals as goal

pub returns : goal.returns
returns c =
    let e = c.self.inside in
    let all = ap (λ (v : EntriesData). length v.entries) c.self.view_is in
    omega (arith, length-entries_of e.width e.heads.items (list_of e.numbers))
