use Rattle.std.proofs.Common.{◌∙◌, ap, arith, rules, FitsSigned, w64}
use Rattle.std.proofs.lemmas.Int.{to_z-of_z}
use Rattle.csv.specs.Records.{fields_of}
use Rattle.imports.specs.Picks.{text_at}
use Rattle.imports.proofs.Numbers.{first_more}
use Rattle.imports.proofs.row.fill_row.Goals as goal

pub loop-i-preserved : goal.loop-i-preserved
loop-i-preserved c =
    let fields = fields_of c.args.record.now in
    let said = c.text_at-text.ensures ∙ ap (text_at fields) c.place_of-place.ensures in
    let fits : FitsSigned w64 c.in_ok-value.field-0 = search rules in
    rw (c.in_ok-push.ensures.items, to_z-of_z w64 c.in_ok-value.field-0 fits) (first_more c.args.rule fields c.args.names.now c.loop-i.i _ c.column-item.result c.loop-i.row.numbers.items c.in_ok-value.field-0 c.loop-i.names c.value.new.names c.text_at-text.result.now
    (omega arith) c.column-item.is said c.loop-i.invariant c.in_ok-value.ensures)
