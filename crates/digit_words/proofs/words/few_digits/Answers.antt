use Rattle.digit_words.proofs.EightBytes.{says_of_text}
use Rattle.digit_words.proofs.words.few_digits.Goals as goal

pub returns-in-Some-clause-says : goal.returns-in-Some-clause-says
returns-in-Some-clause-says c =
    let told = c.digits_in.ensures in
    says_of_text c.digits_in.result c.args.text.now c.in-Some.front.now c.in-Some.ensures.cases told.few told.says
