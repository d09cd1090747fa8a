use Rattle.std.proofs.Common.{◌++◌, Some, ap, ◌∙◌}
use Rattle.std.proofs.lemmas.Bool.Decides.{Decides-eqb}
use Rattle.std.proofs.lemmas.Slice.Eq.{strip_prefix_is}
use Rattle.row_lines.proofs.Fronts.{behind_kept, front_kept}
use Rattle.row_lines.proofs.front.behind_front.Goals as goal

pub returns-in-Some-strip_prefix : goal.returns-in-Some-strip_prefix
returns-in-Some-strip_prefix c =
    let front = c.in-Some.front in
    let rest = c.in-Some-strip_prefix.rest in
    let parts = strip_prefix_is Decides-eqb c.args.line.now c.as_slice.result.now (Some rest) c.in-Some-strip_prefix.ensures.cases in
    behind_kept c.args.line.now front.text.items rest.now front.start front.end front.spells (parts ∙ ap (λ l. l ++ rest.now) c.as_slice.ensures.value)

pub invariant_of-kept : goal.invariant_of-kept
invariant_of-kept c =
    let read = c.in_ok-start in
    record { spells = front_kept c.args.line.now c.in-Ok.text.items read.rest.now read.start read.end read.ensures c.in-Ok.ensures.0 }
