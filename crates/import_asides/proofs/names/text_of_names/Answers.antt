use Rattle.std.proofs.Common.{◌≡◌, ◌+◌, ◌++◌, ◌∷◌, [], ◌∙◌, IfOk, Some, ap, arith, decimal, length, option_map, slice_get, string_bytes, subst, sym, take}
use Rattle.std.proofs.lemmas.List.{length-map, take_all}
use Rattle.std.proofs.lemmas.Option.{slice_get-get_or, slice_get-map}
use Rattle.import_asides.specs.Naming.{name_records}
use Rattle.import_asides.specs.Written.{HasRecords, csv_text}
use Rattle.import_asides.proofs.Numbered.{name_more}
use Rattle.import_asides.proofs.names.text_of_names.Goals as goal

pub loop-i-preserved : goal.loop-i-preserved
loop-i-preserved c =
    let names = c.args.names.now in
    let items = c.names-name-items.result.now in
    let place = c.loop-i.i in
    let item = c.name-item.result in
    let invariant = c.loop-i.invariant in
    let at_item : slice_get items place ≡ Some item = slice_get-get_or items place item c.loop-i-test.true ∙ ap (λ found. Some found) (sym c.name-item.is) in
    let at : slice_get names place ≡ Some (string_bytes item) = subst (λ texts. slice_get texts place ≡ Some (string_bytes item)) invariant.names (slice_get-map string_bytes items place ∙ ap (option_map string_bytes) at_item) in
    let puts : HasRecords (λ text. Some text.items) (Some []) (name_records (take place names) ++ (decimal (place + 1) ∷ c.as_str.result.now ∷ []) ∷ []) [] c.write_name.new.out =
    c.in_ok-write_name.ensures.written (Some []) (name_records (take place names)) invariant.written in
    let named = ap (λ name. name_records (take place names) ++ (decimal (place + 1) ∷ name ∷ []) ∷ []) c.as_str.ensures.value ∙ sym (name_more names place (string_bytes item) at) in
    record {
      names = invariant.names;
      written = subst (λ records. HasRecords (λ text. Some text.items) (Some []) records [] c.write_name.new.out) named puts;
    }

pub returns-clause-text : goal.returns-clause-text
returns-clause-text c =
    let names = c.args.names.now in
    let place = c.loop-i.i in
    let items = c.names-name-items.result.now in
    let size = sym (ap length c.loop-i.invariant.names) ∙ length-map items string_bytes in
    let all : take place names ≡ names = take_all place names (omega (arith, size, c.loop-i-test.false)) in
    subst (λ texts. IfOk c.finish.result (λ text. text.items ≡ csv_text (name_records texts))) all (c.finish.ensures.written (Some []) (name_records (take place names)) c.loop-i.invariant.written)
