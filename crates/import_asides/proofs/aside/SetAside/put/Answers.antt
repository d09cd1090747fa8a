use Rattle.std.proofs.Common.{◌≡◌, ◌++◌, ◌∷◌, [], Some, ap, bytes_eq, if◌then◌else◌, map, slice_get, subst, sym, take, ◌∙◌}
use Rattle.std.proofs.lemmas.Option.{slice_get-get_or}
use Rattle.std.specs.List.{filter, list_any, range_with_len}
use Rattle.csv.specs.Records.{fields_of}
use Rattle.imports.specs.Rows.{column_text}
use Rattle.import_asides.specs.Apart.{field_names, is_first}
use Rattle.import_asides.specs.Written.{HasRecords}
use Rattle.import_asides.proofs.Firsts.{first_more}
use Rattle.import_asides.proofs.aside.SetAside.put.Goals as goal

pub loop-i-preserved : goal.loop-i-preserved
loop-i-preserved g c start records had =
    let columns = c.args.columns.now in
    let place = c.loop-i.i in
    let column = c.index-columns-i.result in
    let text_of = column_text c.args.places.now (fields_of c.args.«record».now) in
    let texts = map text_of (filter (is_first (field_names columns)) (range_with_len 0 place)) in
    let at : slice_get columns place ≡ Some column = slice_get-get_or columns place column c.loop-i-test.true ∙ ap (λ found. Some found) (sym c.index-columns-i.is) in
    let puts : HasRecords g.W.Write.contents start records (texts ++ (if list_any (λ other. bytes_eq other.field.now column.field.now) (take place columns) then [] else c.text_of-text.result.now ∷ [])) c.put_once.new.writer =
    c.in_ok-put_once.ensures.written start records texts (c.loop-i.invariant start records had) in
    let more = ap (λ text. texts ++ (if list_any (λ other. bytes_eq other.field.now column.field.now) (take place columns) then [] else text ∷ [])) c.text_of-text.ensures ∙ sym (first_more columns text_of place column at) in
    subst (λ fields. HasRecords g.W.Write.contents start records fields c.put_once.new.writer) more puts
