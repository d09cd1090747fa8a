use Rattle.std.proofs.Common.{ℕ, List, [], ◌∷◌, ◌++◌, Bor, map, take, sym, ap, ◌∙◌}
use Rattle.std.proofs.lemmas.List.{take_more, map-append}
use Rattle.plan_model.specs.declared.spec.SourceSpec.{SourceSpec}
use Rattle.receipts.proofs.reading.uids_of.Goals as goal

pub loop-source-preserved : goal.loop-source-preserved
loop-source-preserved c =
    let now = λ (uid : Bor (List ℕ)). uid.now in
    let uid = λ (s : SourceSpec). s.uid in
    let sources = c.args.sources.now in
    let place = c.loop-source.source-index in
    let before = take place sources in
    let one = c.as_str.ensures.says ∙ ap uid c.source-item.is in
    ap (map now) c.in_ok-push.ensures.items ∙ map-append now c.loop-source.uids.items (c.as_str.result ∷ []) ∙ ap (λ (m : List (List ℕ)). m ++ c.as_str.result.now ∷ []) c.loop-source.invariant
    ∙ ap (λ (x : List ℕ). map uid before ++ x ∷ []) one ∙ sym (map-append uid before (_ ∷ [])) ∙ ap (map uid) (sym (take_more sources place _ c.loop-source-test.true))
