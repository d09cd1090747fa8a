-- The texts of the parts of a partition, with one more row of the whole.
use Rattle.std.proofs.Common.{◌≡◌, ℕ, ◌<◌, List, Option, None, Result, Ok, Err, sym, subst}
use Rattle.import_entries.specs.declared.rule.EntryRule.{EntryRule}
use Rattle.import_entries.specs.Entries.{place_fault}
use Rattle.entry_texts.specs.Partitions.{Row, times_of}
use Rattle.entry_texts.specs.declared.partition.PutFault.{PutFault}
use Rattle.entry_texts.specs.declared.partition.PutFault.TheVariants as put
use Rattle.dealt_texts.specs.Texts.{HoldsParts, PutsRow, rule_of as parts_rule, dealing_of}
use Rattle.dealt_texts.specs.declared.dealing.Dealing.{Dealing}
use Rattle.dealt_texts.specs.declared.texts.PartTexts.{PartTexts}
use Rattle.import_copies.specs.Streams.{WritesParts, WritesRows, PutsOne}
use Rattle.import_copies.specs.declared.row_texts.RowTexts.TheVariants.{Parts}

pub puts_parts : (rows : List Row) (start now : List (Option (List ℕ))) (row : Row) (old new : PartTexts) (result : Result (Unit {0}) PutFault)
    → parts_rule new ≡ parts_rule old → dealing_of new ≡ dealing_of old → ((written : ℕ → List ℕ) → HoldsParts rows written old → PutsRow rows written row old new result)
    → WritesRows rows start now (Parts old) → PutsOne rows start now row (Parts old) (Parts new) result
puts_parts rows start now row old new (Ok done) rule dealing puts h =
    let holds = puts h.0 h.1 in (
      subst (λ (r : EntryRule). place_fault r.most_rows r.bound (times_of rows) row.time ≡ None) rule holds.timely.0,
      (h.0, holds, λ i within. h.2 i (subst (λ (d : Dealing). i < d.parts) dealing within)),
    )
puts_parts rows start now row old new (Err (put.Place fault)) rule dealing puts h =
    let same = puts h.0 h.1 in
    (same.0, subst (λ p. WritesParts rows start now p) (sym same.1) h)
puts_parts rows start now row old new (Err put.Memory) rule dealing puts h = tt
