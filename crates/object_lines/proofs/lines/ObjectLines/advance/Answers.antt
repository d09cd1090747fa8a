use Rattle.std.proofs.Common.{◌≡◌, ◌∙◌, [], ap, Ok}
use Rattle.object_lines.specs.Lines.{next_line, line_in}
use Rattle.object_lines.proofs.Nexts.{blank, no_line, found, fault_found}
use Rattle.object_lines.proofs.lines.ObjectLines.advance.Goals as goal

pub returns-then-not-branch : goal.returns-then-not-branch
returns-then-not-branch g c left is =
    let now = c.loop.invariant left is in
    let none : now.0 ≡ [] = rw c.if-not-branch.true at c.in_ok-next_line.ensures.steps now.0 now.1 in
    now.2 ∙ ap next_line none ∙ no_line

pub returns-in-Err : goal.returns-in-Err
returns-in-Err g c left is =
    let now = c.loop.invariant left is in
    let step = rw c.if-not-branch.false at c.in_ok-next_line.ensures.steps now.0 now.1 in
    fault_found g.R.Read.remaining c.args.asked.now left now.0 step.0 c.next_line.new.self c.fill.new.self c.in-Err.fault
    now.2 step.1 step.2 c.fill.ensures.line c.fill.ensures.left c.in-Err.ensures.fills

pub returns-in-Ok-true : goal.returns-in-Ok-true
returns-in-Ok-true g c left is =
    let now = c.loop.invariant left is in
    let step = rw c.if-not-branch.false at c.in_ok-next_line.ensures.steps now.0 now.1 in
    let fills = rw c.in-Ok-true.field-0-test at c.in-Ok-true.ensures.fills in
    found g.R.Read.remaining c.args.asked.now left now.0 step.0 c.next_line.new.self c.fill.new.self (Ok tt)
    now.2 step.1 step.2 c.fill.ensures.line c.fill.ensures.left fills.0 fills.1

pub loop-preserved : goal.loop-preserved
loop-preserved g c = λ left is.
    let now = c.loop.invariant left is in
    let step = rw c.if-not-branch.false at c.in_ok-next_line.ensures.steps now.0 now.1 in
    let same = now.2 in
    let first = step.1 in
    let fills = rw c.in-Ok-false.field-0-test at c.in-Ok-false.ensures.fills in
    (step.0, c.fill.ensures.left ∙ step.2, same ∙ ap next_line first ∙ blank (line_in c.next_line.new.self) step.0 fills)
