use Rattle.std.proofs.Common.{rules, ◌≡◌, ◌++◌, ◌∷◌, [], map, string_bytes, sym, subst}
use Rattle.row_lines.specs.Rows.{numbers_in}
use Rattle.row_export.specs.Objects.{HasMembers, IsLine}
use Rattle.row_export.specs.Shown.{kinds_of, titles_of}
use Rattle.row_export.proofs.Members.{line_made}
use Rattle.row_export.proofs.objects.fill_line.Goals as goal

pub returns-clause-line : goal.returns-clause-line
returns-clause-line c =
    let titles = titles_of c.args.table.now in
    let kinds = kinds_of c.args.table.now in
    let names = map string_bytes c.args.names.now in
    let numbers = numbers_in c.args.row.now in
    let text = c.put_members.new.line.items in
    let begun : c.push.new.self.items ≡ 123 ∷ [] = search rules in
    let ended : c.extend_from_slice.new.self.items ≡ text ++ 125 ∷ 10 ∷ [] = search rules in
    let has : HasMembers titles kinds names numbers (123 ∷ []) text = subst (λ l. HasMembers titles kinds names numbers l text) begun c.in_ok-put_members.ensures.members in
    subst (IsLine titles kinds names numbers) (sym ended) (line_made titles kinds names numbers text has)
