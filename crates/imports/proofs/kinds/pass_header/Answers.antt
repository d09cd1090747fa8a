use Rattle.std.proofs.Common.{[], subst}
use Rattle.csv.specs.Records.{fields_of}
use Rattle.imports.specs.Placing.{PlacesFields, stands_of}
use Rattle.imports.proofs.Headers.{places_begun}
use Rattle.imports.proofs.Advances.{always, begun}
use Rattle.imports.proofs.kinds.pass_header.Goals as goal

pub returns-clause-stands : goal.returns-clause-stands
returns-clause-stands g c rest more rows is =
    always c.in_header.result _ (begun g.R.Read.remaining [] rest more c.args.rows.now c.advance.new.self c.in_ok-_is_there._is_there rows is (c.in_ok-_is_there.ensures.row [] rest rows))

pub returns-clause-places : goal.returns-clause-places
returns-clause-places g c rest rows =
    let new = c.advance.new.self in
    let placed = subst (λ row. PlacesFields (stands_of (fields_of row) c.args.fields.now) c.in_header.result) c.record-2.ensures c.in_header.ensures in
    places_begun g.R.Read.remaining rest c.args.fields.now c.args.rows.now new c.in_ok-_is_there._is_there c.in_header.result rows (c.in_ok-_is_there.ensures.row [] rest rows) c.in_ok-_is_there.ensures.kept placed
