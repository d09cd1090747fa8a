use Rattle.std.specs.Prelude.{codes}
use Rattle.std.proofs.Common.{ℕ, List, ◌++◌, map, subst}
use Rattle.std.proofs.lemmas.Result.{on_ok_weaker}
use Rattle.input_parts.specs.Parts.{is_in_part, entries_left}
use Rattle.part_texts.specs.InputTexts.{partitions_text}
use Rattle.part_texts.specs.PartTexts.{Each, with_words}
use Rattle.part_texts.specs.Streams.{states_of}
use Rattle.part_texts.proofs.Steps.{words_more, then_more}
use Rattle.part_texts.proofs.parts.push_source.Goals as goal

pub returns : goal.returns
returns g c =
    let keep = is_in_part c.args.plan.now c.args.parts in
    let uid = c.args.spec.now.uid in
    let parts : ℕ → List ℕ = λ i. partitions_text (map (entries_left (keep i)) c.args.partitions.now) in
    let a = states_of g.W.Write.contents c.args.texts.now in
    let b = states_of g.W.Write.contents c.push_all.new.texts in
    let d = states_of g.W.Write.contents c.push_all-2.new.texts in
    let e = states_of g.W.Write.contents c.push_all-3.new.texts in
    let f = states_of g.W.Write.contents c.push_partitions.new.texts in
    let z = states_of g.W.Write.contents c.push_all-4.new.texts in
    let quoted = words_more (codes "\"") a b c.in_ok-push_all.ensures in
    let named = words_more uid b d (subst (λ w. Each (λ i p. with_words w p) b d) c.as_str.ensures.says c.in_ok-push_all-2.ensures) in
    let opened = words_more (codes "\":[") d e c.in_ok-push_all-3.ensures in
    on_ok_weaker c.push_all-4.result
    (λ h.
    then_more (λ i. codes "\"") (λ i. uid ++ (codes "\":[" ++ (parts i ++ codes "]"))) a b z quoted
    (then_more (λ i. uid) (λ i. codes "\":[" ++ (parts i ++ codes "]")) b d z named
    (then_more (λ i. codes "\":[") (λ i. parts i ++ codes "]") d e z opened
    (then_more parts (λ i. codes "]") e f z c.in_ok-push_partitions.ensures (words_more (codes "]") f z h)))))
    c.push_all-4.ensures
