use Rattle.std.proofs.Common.{◌≡◌, ℕ, ◌++◌, ◌∷◌, [], Some, ap, bytes_eq, get_or, if◌then◌else◌, length, map, rules, slice_get, subst, sym, take, ◌∙◌}
use Rattle.std.proofs.lemmas.List.{length-map}
use Rattle.std.proofs.lemmas.Option.{slice_get-get_or}
use Rattle.std.specs.List.{filter, list_any, range_with_len}
use Rattle.import_columns.specs.declared.column.Column.{Column}
use Rattle.import_asides.specs.Apart.{field_names, is_first}
use Rattle.import_asides.specs.Written.{HasRecords}
use Rattle.import_asides.proofs.Firsts.{first_more, name_at}
use Rattle.import_asides.proofs.aside.SetAside.new.Goals as goal

pub loop-i-preserved : goal.loop-i-preserved
loop-i-preserved g c =
    let start = g.W.Write.contents c.args.out in
    let columns = c.args.columns.now in
    let place = c.loop-i.i in
    let column = c.index-columns-i.result in
    let name_of = λ (place : ℕ). get_or (field_names columns) place [] in
    let names = map name_of (filter (is_first (field_names columns)) (range_with_len 0 place)) in
    let at : slice_get columns place ≡ Some column = slice_get-get_or columns place column c.loop-i-test.true ∙ ap (λ found. Some found) (sym c.index-columns-i.is) in
    let puts : HasRecords g.W.Write.contents start [] (names ++ (if list_any (λ other. bytes_eq other.field.now column.field.now) (take place columns) then [] else c.as_bytes.result.now ∷ [])) c.put_once.new.writer =
    c.in_ok-put_once.ensures.written start [] names c.loop-i.invariant in
    let more = ap (λ name. names ++ (if list_any (λ other. bytes_eq other.field.now column.field.now) (take place columns) then [] else name ∷ [])) (c.as_bytes.ensures.value ∙ sym (name_at columns place column at)) ∙ sym (first_more columns name_of place column at) in
    subst (λ fields. HasRecords g.W.Write.contents start [] fields c.put_once.new.writer) more puts

pub returns-clause-names : goal.returns-clause-names
returns-clause-names g c =
    let start = g.W.Write.contents c.args.out in
    let columns = c.args.columns.now in
    let names = λ (count : ℕ). map (λ place. get_or (field_names columns) place []) (filter (is_first (field_names columns)) (range_with_len 0 count)) in
    let whole : c.loop-i.i ≡ length columns = search rules in
    let all = whole ∙ sym (length-map columns (λ (column : Column). column.field.now)) in
    let ends : HasRecords g.W.Write.contents start (names c.loop-i.i ∷ []) [] c.end_record.new.self = c.in_ok-end_record.ensures.written start [] (names c.loop-i.i) c.loop-i.invariant in
    subst (λ count. HasRecords g.W.Write.contents start (names count ∷ []) [] c.end_record.new.self) all ends
