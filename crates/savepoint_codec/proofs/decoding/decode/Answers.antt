use Rattle.std.proofs.Common.{◌≡◌, Ok, sym, ap, subst, ◌∙◌, arith}
use Rattle.std.proofs.lemmas.Result.{err_from_is_err_and}
use Rattle.byte_fields.specs.Format.{whole}
use Rattle.byte_fields.proofs.Exact.{whole_takes, whole_again}
use Rattle.savepoint_codec.specs.Layout.{unindexed_format}
use Rattle.savepoint_codec.specs.Answer.{unindexed_of_bytes, fault_said, Gives}
use Rattle.savepoint_codec.proofs.LayoutExact.{unindexed_exact, refuses}
use Rattle.savepoint_codec.proofs.decoding.decode.Goals as goal

pub returns-in_err-contents-clause-exact : goal.returns-in_err-contents-clause-exact
unfolding unindexed_of_bytes
returns-in_err-contents-clause-exact c =
    let e = err_from_is_err_and c.from_residual.result c.from_residual.ensures.1 in
    rw (e.1, e.2) (refuses c.in_err-contents.field-0.0 (whole unindexed_format c.args.bytes.now) c.in_err-contents.ensures)

pub returns-in_err-contents-clause-read : goal.returns-in_err-contents-clause-read
unfolding unindexed_of_bytes
returns-in_err-contents-clause-read c = λ s fits e.
    let said : unindexed_of_bytes c.args.bytes.now ≡ Ok s = ap fault_said (ap (whole unindexed_format) e ∙ whole_again unindexed_format unindexed_exact s fits) in
    subst (λ x. Gives c.from_residual.result x) said (returns-in_err-contents-clause-exact c)

pub from_contents-requires : goal.from_contents-requires
from_contents-requires c = (whole_takes unindexed_format unindexed_exact c.args.bytes.now c.in_ok-contents.contents (λ i. omega (arith, c.type_inv.bytes i)) c.in_ok-contents.ensures).0

pub returns-clause-exact : goal.returns-clause-exact
unfolding unindexed_of_bytes
returns-clause-exact c = ap fault_said c.in_ok-contents.ensures ∙ ap (λ s. Ok s) (sym c.from_contents.ensures)

pub returns-clause-spelled : goal.returns-clause-spelled
returns-clause-spelled c =
    (whole_takes unindexed_format unindexed_exact c.args.bytes.now c.in_ok-contents.contents (λ i. omega (arith, c.type_inv.bytes i)) c.in_ok-contents.ensures).1
    ∙ ap unindexed_format.spell (sym c.from_contents.ensures)

pub returns-clause-read : goal.returns-clause-read
unfolding unindexed_of_bytes
returns-clause-read c = λ s fits e.
    let said : unindexed_of_bytes c.args.bytes.now ≡ Ok s = ap fault_said (ap (whole unindexed_format) e ∙ whole_again unindexed_format unindexed_exact s fits) in
    sym said ∙ returns-clause-exact c
