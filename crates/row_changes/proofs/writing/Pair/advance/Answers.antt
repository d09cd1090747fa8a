use Rattle.std.proofs.Common.{◌≡◌, sym, ap, ◌∙◌, string_bytes}
use Rattle.row_changes.specs.Order.{first_of}
use Rattle.row_changes.specs.declared.order.First.TheVariants as first
use Rattle.row_changes.proofs.Passing.{old_steps, new_steps, both_steps}
use Rattle.row_changes.proofs.writing.Pair.advance.Goals as goal

pub returns-in_ok-pass_old-in-Old-clause-steps : goal.returns-in_ok-pass_old-in-Old-clause-steps
returns-in_ok-pass_old-in-Old-clause-steps g c = λ last behind more.
    let which : first_of c.args.self.now.old_row c.args.self.now.new_row ≡ first.Old = (λ i. first_of (sym c.as_ref.ensures.value i) (sym c.as_ref-2.ensures.value i)) ∙ sym c.first_of.ensures ∙ c.in-Old.is in
    old_steps g.R.Read.remaining g.S.Read.remaining c.args.self.now c.pass_old.new.self last (string_bytes c.args.text.now) (string_bytes c.pass_old.new.text) which behind c.in_ok-pass_old-in-Old.ensures.passes c.in_ok-pass_old-in-Old.ensures.text

pub returns-in_ok-pass_new-in-New-clause-steps : goal.returns-in_ok-pass_new-in-New-clause-steps
returns-in_ok-pass_new-in-New-clause-steps g c = λ last behind more.
    let which : first_of c.args.self.now.old_row c.args.self.now.new_row ≡ first.New = (λ i. first_of (sym c.as_ref.ensures.value i) (sym c.as_ref-2.ensures.value i)) ∙ sym c.first_of.ensures ∙ c.in-New.is in
    new_steps g.R.Read.remaining g.S.Read.remaining c.args.self.now c.pass_new.new.self last (string_bytes c.args.text.now) (string_bytes c.pass_new.new.text) which behind c.in_ok-pass_new-in-New.ensures.passes c.in_ok-pass_new-in-New.ensures.text

pub returns-in_ok-pass_both-in-Both-clause-steps : goal.returns-in_ok-pass_both-in-Both-clause-steps
returns-in_ok-pass_both-in-Both-clause-steps g c = λ last behind more.
    let which : first_of c.args.self.now.old_row c.args.self.now.new_row ≡ first.Both = (λ i. first_of (sym c.as_ref.ensures.value i) (sym c.as_ref-2.ensures.value i)) ∙ sym c.first_of.ensures ∙ c.in-Both.is in
    both_steps g.R.Read.remaining g.S.Read.remaining c.args.self.now c.pass_both.new.self last (string_bytes c.args.text.now) (string_bytes c.pass_both.new.text) which behind c.in_ok-pass_both-in-Both.ensures.passes c.in_ok-pass_both-in-Both.ensures.text
