use Rattle.std.proofs.Common.{refl, subst, sym, ◌∙◌}
use Rattle.imports.specs.Placing.{AreFields, IsPlaced}
use Rattle.imports.specs.Reading.{Rest, StandsAt}
use Rattle.known_records.specs.Known.{keys_in, columns_in}
use Rattle.import_copies.specs.Streams.{rule_of}
use Rattle.import_copies.proofs.Each.{same_placed, whole}
use Rattle.import_copies.proofs.files.copy_rows.Goals as goal

pub returns-clause-sorts : goal.returns-clause-sorts
returns-clause-sorts g c before start h =
    let stand = c.in_ok-stand.stand in
    let fields : AreFields c.args.rule.columns.now c.deref-2.result.now = subst (AreFields c.args.rule.columns.now) (sym c.deref-2.ensures.value) c.in_ok-fields.ensures.fields in
    let placed : (rest : Rest) → StandsAt g.R.Read.remaining c.args.rows.now rest → IsPlaced rest c.deref-2.result.now c.deref-4.result.now c.deref-3.result.now = λ rest stands.
    same_placed rest c.deref.result.now c.deref-2.result.now stand.places.items c.deref-4.result.now stand.picks.items c.deref-3.result.now (c.deref-2.ensures.value ∙ sym c.deref.ensures.value) c.deref-4.ensures.value c.deref-3.ensures.value
    (c.in_ok-stand.ensures.places rest stands) in
    whole g.R.Read.remaining c.args.rule _ (columns_in c.args.known.now) c.args.rows.now c.begin.new.self (rule_of c.args.partition.now) (keys_in c.args.known.now) before start _ _ _ c.copy_records.result
    (refl, refl, c.point_by-point.ensures, refl, fields) placed c.in_ok-stand.ensures.stands (c.copy_records.ensures.sorts before start h)
