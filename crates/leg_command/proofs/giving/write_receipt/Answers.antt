use Rattle.std.proofs.Common.{refl, sym, ap, subst, ◌∙◌}
use Rattle.std.specs.Prelude.{string_bytes}
use Rattle.std.proofs.lemmas.Result.{IfOk-weaker}
use Rattle.new_files.specs.Streams.{HasGot}
use Rattle.leg_receipts.specs.declared.making.Told.{Told}
use Rattle.leg_receipts.specs.Made.{told_of}
use Rattle.leg_command.proofs.Named.{some_map}
use Rattle.leg_command.proofs.giving.write_receipt.Goals as goal

pub returns-in-Ok-clause-written : goal.returns-in-Ok-clause-written
returns-in-Ok-clause-written g c =
    let told : Told = record { version = c.version.result; rows = c.args.rows; names = c.args.receipt.names } in
    let made = c.in-Ok.ensures in
    let saved = sym (some_map (λ bytes. bytes.now) c.args.saved) in
    IfOk-weaker c.keep.result _ _ (λ stream got.
    (told, string_bytes c.in-Ok.text, refl, refl, (made.0, made.1, made.2, made.3 ∙ ap (λ b. told_of b told made.0) saved), subst (HasGot g.R.File.Write.contents stream) c.as_bytes.ensures.value got)) c.keep.ensures.written
