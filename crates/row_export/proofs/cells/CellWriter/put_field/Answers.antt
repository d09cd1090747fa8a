use Rattle.std.proofs.Common.{rules, ◌≡◌, true, map, string_bytes, subst}
use Rattle.row_tables.specs.Cells.{PutsDecimal}
use Rattle.row_export.proofs.Records.{decimal_is_field}
use Rattle.row_export.proofs.cells.CellWriter.put_field.Goals as goal

pub returns-then-branch : goal.returns-then-branch
returns-then-branch c =
    let kind = c.args.kind.now in
    let number = c.args.number in
    let before = c.args.line.now.items in
    let after = c.put_decimal.new.line.items in
    let is_put : c.in_ok-put_decimal.field-0 ≡ true = search rules in
    let told : PutsDecimal c.in_ok-put_decimal.field-0 kind number before after = search rules in
    decimal_is_field kind (map string_bytes c.args.names.now) number before after (subst (λ b. PutsDecimal b kind number before after) is_put told)
