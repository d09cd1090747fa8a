use Rattle.std.proofs.Common.{Ok, sym, subst}
use Rattle.row_lines.specs.Sequences.{GivesPlaceRead, IsNextPlace}
use Rattle.row_lines.proofs.Feeds.{next_refused, take_refused, handed}
use Rattle.row_lines.proofs.rows.RowLines.advance_place.Goals as goal

pub returns-in_err-take-clause-next : goal.returns-in_err-take-clause-next
returns-in_err-take-clause-next g c =
    let r = g.R.Read.remaining in
    let mid = c.next_place.new.self in
    let new = c.take.new.self in
    let read = subst (λ o. GivesPlaceRead r c.args.self.now mid (Ok o)) c.in-Some.is c.in_ok-place.ensures.read in
    let at = read.place_is in
    let fault = c.in_err-take.field-0.0 in
    let handed_on = handed c.from_residual-in_err-take.result fault c.from_residual-in_err-take.ensures.0 c.from_residual-in_err-take.ensures.1 in
    subst (IsNextPlace r c.args.self.now new) (sym handed_on)
    (next_refused r c.args.self.now mid new fault read.line (take_refused mid new at.row c.in-Some.place fault at.is at.line_is at.place_is c.in_err-take.ensures.takes))
