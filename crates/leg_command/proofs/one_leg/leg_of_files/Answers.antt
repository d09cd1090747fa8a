use Rattle.std.proofs.Common.{◌∙◌, ◌⊎◌, ℕ, List, Bor, Option, option_map, subst, sym}
use Rattle.command_files.specs.Files.{CannotRead}
use Rattle.leg_command.specs.Answers.{ComesOfTexts}
use Rattle.leg_command.proofs.Files.{unread, refused, run}
use Rattle.leg_command.proofs.Named.{some_map}
use Rattle.leg_command.proofs.one_leg.leg_of_files.Goals as goal

pub returns-in_err-texts : goal.returns-in_err-texts
returns-in_err-texts g c = unread c.args.words.now c.args.stop c.in_err-texts.field-0.0 c.from_residual.result c.in_err-texts.ensures.err c.from_residual.ensures.0 c.from_residual.ensures.1

pub returns-in_err-check_before : goal.returns-in_err-check_before
returns-in_err-check_before g c =
    let now = λ (text : Bor (List ℕ)). text.now in
    let has_from = some_map now c.as_deref-from.result ∙ c.as_deref-from.ensures.variant ∙ c.in_ok-texts.ensures.from in
    let has_since = some_map now c.as_deref-since.result ∙ c.as_deref-since.ensures.variant ∙ c.in_ok-texts.ensures.since in
    let has_names = some_map now c.as_deref-names.result ∙ c.as_deref-names.ensures.variant ∙ c.in_ok-texts.ensures.names in
    refused c.args.words.now c.args.stop c.deref.result.now c.deref-2.result.now c.in_ok-texts.texts.scale.items (option_map now c.as_deref-from.result) (option_map now c.as_deref-since.result) (option_map now c.as_deref-names.result) has_from has_since has_names
    c.check_before.result c.check_before.ensures c.in_err-check_before.field-0.0 c.from_residual-in_err-check_before.result c.in_err-check_before.was c.from_residual-in_err-check_before.ensures.0 c.from_residual-in_err-check_before.ensures.1

pub returns : goal.returns
returns g c =
    let now = λ (text : Bor (List ℕ)). text.now in
    let has_from = some_map now c.as_deref-from.result ∙ c.as_deref-from.ensures.variant ∙ c.in_ok-texts.ensures.from in
    let has_since = some_map now c.as_deref-since.result ∙ c.as_deref-since.ensures.variant ∙ c.in_ok-texts.ensures.since in
    let has_names = some_map now c.as_deref-names.result ∙ c.as_deref-names.ensures.variant ∙ c.in_ok-texts.ensures.names in
    let from = option_map now c.as_deref-from.result in
    let scale = c.in_ok-texts.texts.scale.items in
    let result = c.leg_of_texts.result in
    let comes_from = subst (λ (f : Option (List ℕ)). CannotRead result ⊎ ComesOfTexts c.args.stop c.in_ok-texts.texts.plan.items c.in_ok-texts.bytes.input.items scale f result) (sym c.as_deref-from.ensures.value) c.leg_of_texts.ensures in
    let comes_of = subst (λ plan. CannotRead result ⊎ ComesOfTexts c.args.stop plan c.in_ok-texts.bytes.input.items scale from result) (sym c.deref.ensures.value) comes_from in
    let comes = subst (λ input. CannotRead result ⊎ ComesOfTexts c.args.stop c.deref.result.now input scale from result) (sym c.deref-2.ensures.value) comes_of in
    run c.args.words.now c.args.stop c.deref.result.now c.deref-2.result.now c.in_ok-texts.texts.scale.items (option_map now c.as_deref-from.result) (option_map now c.as_deref-since.result) (option_map now c.as_deref-names.result) has_from has_since has_names
    c.check_before.result c.check_before.ensures c.in_ok-check_before.field-0 c.leg_of_texts.result c.after_job.result c.in_ok-check_before.was comes c.after_job.ensures
