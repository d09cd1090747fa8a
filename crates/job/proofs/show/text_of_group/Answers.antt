use Rattle.std.proofs.Common.{string_bytes}
use Rattle.job.proofs.ShowAnswers.{forgotten, shown, unread}
use Rattle.job.proofs.show.text_of_group.Goals as goal

pub returns-in_err-entries : goal.returns-in_err-entries
returns-in_err-entries c =
    unread string_bytes c.args.group c.args.bytes.now c.in_err-entries.field-0.0 c.from_residual.result c.from_residual.ensures.0 c.from_residual.ensures.1 c.in_err-entries.ensures.entries (λ f e. let same = c.in_err-entries.ensures.marked f e in cc)

pub returns-in_err-text_of_entries : goal.returns-in_err-text_of_entries
returns-in_err-text_of_entries c =
    forgotten string_bytes c.args.group c.args.bytes.now c.from_residual-in_err-text_of_entries.result c.from_residual-in_err-text_of_entries.ensures.0 c.from_residual-in_err-text_of_entries.ensures.1
    (λ f e. let same = c.in_ok-entries.ensures.marked f e in absurd cc)

pub returns : goal.returns
returns c =
    shown string_bytes c.args.group c.args.bytes.now c.in_ok-entries.entries c.in_ok-text_of_entries.field-0 c.in_ok-entries.ensures.entries (λ f e. let same = c.in_ok-entries.ensures.marked f e in absurd cc) c.in_ok-text_of_entries.ensures
