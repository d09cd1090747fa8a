use Rattle.std.proofs.Common.{◌≡◌, ◌&&◌, Bool, true, false, is_some, map, Some, refl, sym, ap, ◌∙◌}
use Rattle.std.specs.List.{list_all, list_any}
use Rattle.std.specs.Result.{is_ok}
use Rattle.answers.specs.Answer.{unless}
use Rattle.input_texts.specs.Answer.{is_memory}
use Rattle.input_texts.specs.Document.{is_other_slot}
use Rattle.input_texts.specs.Seen.{SourceSeen}
use Rattle.input_texts.proofs.NotedTexts.{empty_is, other_text, says_text, text_noted, source_fault, are_seen}
use Rattle.input_texts.proofs.finding.check_document.Goals as goal

told : (b : Bool) {A : Type 0} → A → unless b A
told true a = tt
told false a = a

pub returns-then-is_malformed : goal.returns-then-is_malformed
returns-then-is_malformed c = λ most ms i.
    let plan = c.args.plan.now in
    let document = c.args.document.now in
    let slots : c.has_other_form.result ≡ list_any is_other_slot document.slots.items = c.has_other_form.ensures ∙ ap (list_any is_other_slot) c.deref.ensures.value in
    let names = empty_is document.names.keys c.is_empty.result c.is_empty.ensures in
    rw (other_text plan most ms document c.has_other_form.result c.is_empty.result i slots names c.if-is_malformed.true) refl

pub returns-then-document : goal.returns-then-document
returns-then-document c = λ most ms i. (ms, refl, i.many c.if-document.true)

pub returns-then-not-is_named : goal.returns-then-not-is_named
returns-then-not-is_named c = λ most ms i.
    let plan = c.args.plan.now in
    let document = c.args.document.now in
    let slots : c.has_other_form.result ≡ list_any is_other_slot document.slots.items = c.has_other_form.ensures ∙ ap (list_any is_other_slot) c.deref.ensures.value in
    let names = empty_is document.names.keys c.is_empty.result c.is_empty.ensures in
    let text = text_noted plan most ms document c.has_other_form.result c.is_empty.result i slots names c.if-is_malformed.false c.if-document.false in
    let given : c.are_given.result ≡ list_all is_some document.slots.items = c.are_given.ensures ∙ ap (list_all is_some) c.deref-2.ensures.value in
    rw (says_text ms text.0 text.1) (source_fault plan most ms document text.0 i text.1 (ap (λ b. document.is_planned && b) (sym given) ∙ c.if-not-is_named.true))

pub first_fault-requires : goal.first_fault-requires
first_fault-requires c =
    let plan = c.args.plan.now in
    let document = c.args.document.now in
    let most = c.requires.0 in
    let ms = c.requires.1 in
    let i = c.requires.2 in
    let slots : c.has_other_form.result ≡ list_any is_other_slot document.slots.items = c.has_other_form.ensures ∙ ap (list_any is_other_slot) c.deref.ensures.value in
    let names = empty_is document.names.keys c.is_empty.result c.is_empty.ensures in
    let text = text_noted plan most ms document c.has_other_form.result c.is_empty.result i slots names c.if-is_malformed.false c.if-document.false in
    let given : c.are_given.result ≡ list_all is_some document.slots.items = c.are_given.ensures ∙ ap (list_all is_some) c.deref-2.ensures.value in
    let named = ap (λ b. document.is_planned && b) (sym given) ∙ c.if-not-is_named.false in
    let found : document.slots.items ≡ map (λ (x : SourceSeen). Some (Some x)) c.deref-4.result.now =
    sym c.deref-3.ensures.value ∙ c.in_ok-sources.ensures ∙ ap (map (λ (x : SourceSeen). Some (Some x))) (sym c.deref-4.ensures.value) in
    (text.0, are_seen plan most ms document text.0 c.deref-4.result.now i text.1 named found)

pub returns-in-Some : goal.returns-in-Some
returns-in-Some c = λ most ms i.
    let plan = c.args.plan.now in
    let document = c.args.document.now in
    let slots : c.has_other_form.result ≡ list_any is_other_slot document.slots.items = c.has_other_form.ensures ∙ ap (list_any is_other_slot) c.deref.ensures.value in
    let names = empty_is document.names.keys c.is_empty.result c.is_empty.ensures in
    let text = text_noted plan most ms document c.has_other_form.result c.is_empty.result i slots names c.if-is_malformed.false c.if-document.false in
    let given : c.are_given.result ≡ list_all is_some document.slots.items = c.are_given.ensures ∙ ap (list_all is_some) c.deref-2.ensures.value in
    let named = ap (λ b. document.is_planned && b) (sym given) ∙ c.if-not-is_named.false in
    let found : document.slots.items ≡ map (λ (x : SourceSeen). Some (Some x)) c.deref-4.result.now =
    sym c.deref-3.ensures.value ∙ c.in_ok-sources.ensures ∙ ap (map (λ (x : SourceSeen). Some (Some x))) (sym c.deref-4.ensures.value) in
    rw (says_text ms text.0 text.1) (told (is_memory c.in-Some.fault) (c.in-Some.ensures.first text.0 (are_seen plan most ms document text.0 c.deref-4.result.now i text.1 named found)))

pub returns : goal.returns
returns c = λ most ms i.
    let plan = c.args.plan.now in
    let document = c.args.document.now in
    let slots : c.has_other_form.result ≡ list_any is_other_slot document.slots.items = c.has_other_form.ensures ∙ ap (list_any is_other_slot) c.deref.ensures.value in
    let names = empty_is document.names.keys c.is_empty.result c.is_empty.ensures in
    let text = text_noted plan most ms document c.has_other_form.result c.is_empty.result i slots names c.if-is_malformed.false c.if-document.false in
    let given : c.are_given.result ≡ list_all is_some document.slots.items = c.are_given.ensures ∙ ap (list_all is_some) c.deref-2.ensures.value in
    let named = ap (λ b. document.is_planned && b) (sym given) ∙ c.if-not-is_named.false in
    let found : document.slots.items ≡ map (λ (x : SourceSeen). Some (Some x)) c.deref-4.result.now =
    sym c.deref-3.ensures.value ∙ c.in_ok-sources.ensures ∙ ap (map (λ (x : SourceSeen). Some (Some x))) (sym c.deref-4.ensures.value) in
    rw (says_text ms text.0 text.1) (ap is_ok (c.in-None.ensures.none text.0 (are_seen plan most ms document text.0 c.deref-4.result.now i text.1 named found)))
