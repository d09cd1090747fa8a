use Rattle.std.proofs.Common.{ℕ, List, subst, sym, to_z, of_z, rules}
use Rattle.std.specs.Int.{w64}
use Rattle.std.proofs.lemmas.Int.{to_z-of_z}
use Rattle.dealt_texts.specs.Texts.{HoldsParts, PutsRow}
use Rattle.import_copies.specs.Rows.{said_of}
use Rattle.import_copies.specs.Streams.{WritesRows, PutsOne}
use Rattle.import_copies.specs.declared.row_texts.RowTexts.{RowTexts}
use Rattle.import_copies.specs.declared.row_texts.RowTexts.TheVariants.{Parts}
use Rattle.import_copies.proofs.Putting.{puts_parts}
use Rattle.import_copies.proofs.row_texts.RowTexts.put.Goals as goal

pub returns-in-Parts-clause-puts : goal.returns-in-Parts-clause-puts
returns-in-Parts-clause-puts c rows start now h =
    let row = said_of c.args.row in
    let old = c.in-Parts.parts in
    let new = c.put-in-Parts.new.self in
    let result = c.put-in-Parts.result in
    let time = to_z-of_z w64 c.args.row.time (search rules) in
    let first = to_z-of_z w64 c.args.row.first (search rules) in
    let puts : (written : ℕ → List ℕ) → HoldsParts rows written old → PutsRow rows written row old new result = λ written holds.
    subst (λ t. PutsRow rows written (record { time = t; first = row.first; others = row.others }) old new result) time
    (subst (λ f. PutsRow rows written (record { time = to_z w64 (of_z w64 c.args.row.time); first = f; others = row.others }) old new result) first (c.put-in-Parts.ensures.puts rows written holds)) in
    let held = subst (λ (t : RowTexts). WritesRows rows start now t) c.in-Parts.is h in
    subst (λ (t : RowTexts). PutsOne rows start now row t (Parts new) result) (sym c.in-Parts.is)
    (puts_parts rows start now row old new result c.put-in-Parts.ensures.rule c.put-in-Parts.ensures.dealing puts held)
