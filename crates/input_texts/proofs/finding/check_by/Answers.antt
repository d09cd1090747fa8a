use Rattle.std.proofs.Common.{refl, subst}
use Rattle.input_texts.specs.Document.{Tells}
use Rattle.input_texts.proofs.finding.check_by.Goals as goal

pub check_document-requires : goal.check_document-requires
check_document-requires c =
    let told = c.in-Ok-Some.ensures.said in
    let noted = subst (λ t. Tells c.args.plan.now c.args.most t told.0) c.in-Ok-Some.field-0-is told.2 in
    (c.args.most, noted.0, noted.2)

pub returns-in-Ok-Some : goal.returns-in-Ok-Some
returns-in-Ok-Some c =
    let told = c.in-Ok-Some.ensures.said in
    let noted = subst (λ t. Tells c.args.plan.now c.args.most t told.0) c.in-Ok-Some.field-0-is told.2 in
    rw (told.1, noted.1) (c.check_document.ensures c.args.most noted.0 noted.2)

pub returns-in-Ok-None : goal.returns-in-Ok-None
returns-in-Ok-None c =
    let told = c.in-Ok-None.ensures.said in
    let other = subst (λ t. Tells c.args.plan.now c.args.most t told.0) c.in-Ok-None.field-0-is told.2 in
    rw (told.1, other) refl

pub returns-in-Err-Other : goal.returns-in-Err-Other
returns-in-Err-Other c = rw (c.in-Err-Other.ensures.refused c.in-Err-Other.field-0-is) refl
