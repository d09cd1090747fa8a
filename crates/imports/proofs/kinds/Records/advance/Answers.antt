use Rattle.imports.proofs.Advances.{a_line, no_object}
use Rattle.imports.proofs.kinds.Records.advance.Goals as goal

pub returns-in-Rows : goal.returns-in-Rows
returns-in-Rows g c rest stands = c.advance_picked.ensures c.args.fields.now rest (rw c.in-Rows.is at stands)

pub returns-in-Ok : goal.returns-in-Ok
returns-in-Ok g c rest stands =
    a_line g.R.Read.remaining c.args.fields.now c.args.picks.now rest c.in-Objects.lines _ c.in-Ok.is_there (rw c.in-Objects.is at stands) c.in-Ok.ensures

pub returns-in-Err : goal.returns-in-Err
returns-in-Err g c rest stands =
    rw c.line_fault.ensures (no_object g.R.Read.remaining c.args.fields.now c.args.picks.now rest c.in-Objects.lines c.advance.new.self c.in-Err.fault (rw c.in-Objects.is at stands) c.in-Err.ensures)
