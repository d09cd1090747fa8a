use Rattle.std.proofs.Common.{arith}
use Rattle.row_lines.proofs.Places.{line_before, took_line, place_within}
use Rattle.row_lines.proofs.lines.Lines.take_line.Goals as goal

pub overflow_add-self : goal.overflow_add-self
overflow_add-self g c =
    let s = c.args.self.now in
    let within = place_within s.held.items s.end c.args.place c.requires in
    omega (arith, s.held.ok.0, s.held.small)

pub overflow_add-self-2 : goal.overflow_add-self-2
overflow_add-self-2 g c =
    let s = c.args.self.now in
    let within = place_within s.held.items s.end c.args.place c.requires in
    omega (arith, s.held.ok.0, s.held.small)

pub invariant_of-self : goal.invariant_of-self
invariant_of-self g c =
    let s = c.args.self.now in
    let within = place_within s.held.items s.end c.args.place c.requires in
    record { ordered = omega arith; inside = omega (arith, s.held.ok.0); room = s.room }

pub returns-clause-line : goal.returns-clause-line
returns-clause-line g c = line_before c.args.self.now.held.items c.args.self.now.end c.args.place

pub returns-clause-step : goal.returns-clause-step
returns-clause-step g c =
    let s = c.args.self.now in
    took_line (g.R.Read.remaining s.input) s.held.items s.end c.args.place c.requires
