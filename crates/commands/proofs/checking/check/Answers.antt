use Rattle.std.proofs.Common.{◌∙◌, ℕ, List, Bor, Bool, Option, option_map, inr, subst, sym}
use Rattle.commands.specs.Checking.{AnswersWords, ChecksTexts}
use Rattle.commands.specs.declared.checking.Text.{Text}
use Rattle.leg_command.proofs.Facts.{some_map}
use Rattle.commands.proofs.checking.check.Goals as goal

-- the texts are those of the files, one for each that is named
pub returns : goal.returns
returns g c =
    let words = c.args.words.now in
    let texts = c.texts_of-texts.result in
    let said = c.check_texts-answer.result in
    let bytes = λ (text : Text). text.bytes.now in
    let checks = subst (λ (stop : Option (Bor (List ℕ))). ChecksTexts texts.plan.bytes.now (option_map bytes texts.input) (option_map bytes texts.scale) (option_map bytes texts.from) (option_map (λ word. word.now) stop) said)
    c.texts_of-texts.ensures.stop c.check_texts-answer.ensures in
    let input = some_map bytes texts.input ∙ c.texts_of-texts.ensures.input ∙ c.in_ok-read.ensures.input in
    let scale = some_map bytes texts.scale ∙ c.texts_of-texts.ensures.scale ∙ c.in_ok-read.ensures.scale in
    let from = some_map bytes texts.from ∙ c.texts_of-texts.ensures.from ∙ c.in_ok-read.ensures.from in
    subst (λ (lacks : Bool). AnswersWords lacks words said) (sym (sym c.are_wrong.ensures ∙ c.if-are_wrong.false))
    (inr (texts.plan.bytes.now, option_map bytes texts.input, option_map bytes texts.scale, option_map bytes texts.from, input, scale, from, checks))
