use Rattle.std.proofs.Common.{rules, arith, ◌≡◌, ◌≤◌, ◌++◌, ◌∷◌, [], length, map, string_bytes, sym, subst}
use Rattle.row_lines.specs.Rows.{numbers_in}
use Rattle.row_export.specs.Records.{HasFields, IsRecord}
use Rattle.row_export.proofs.Records.{record_made}
use Rattle.row_export.proofs.record.fill_record.Goals as goal

pub returns-clause-record : goal.returns-clause-record
returns-clause-record c =
    let kinds = c.args.kinds.now in
    let names = map string_bytes c.args.names.now in
    let numbers = numbers_in c.args.row.now in
    let text = c.put_fields.new.line.items in
    let wide : length numbers ≡ length kinds = search rules in
    let none : c.clear.new.self.items ≡ [] = search rules in
    let ended : c.push.new.self.items ≡ text ++ 10 ∷ [] = search rules in
    let has : HasFields kinds names numbers [] text = subst (λ l. HasFields kinds names numbers l text) none c.in_ok-put_fields.ensures.fields in
    subst (IsRecord kinds names numbers) (sym ended) (record_made kinds names numbers text (omega (arith, wide)) has)
