use Rattle.std.proofs.Common.{◌≡◌, ◌∙◌, ℕ, List, length, sym, arith}
use Rattle.std.proofs.lemmas.List.{length-map}
use Rattle.std.proofs.lemmas.Result.{on_ok_weaker}
use Rattle.input_parts.specs.Parts.{part_of_input}
use Rattle.part_texts.specs.InputTexts.{input_text}
use Rattle.part_texts.specs.Streams.{stream_of, state_of}
use Rattle.part_texts.proofs.Steps.{ended_at}
use Rattle.part_texts.proofs.parts.write_texts.Goals as goal

pub returns : goal.returns
returns g c =
    let text : ℕ → List ℕ = λ place. input_text c.args.plan.now (part_of_input c.args.plan.now c.args.parts place c.args.input.now) in
    let old = c.args.texts.now in
    let mid = c.push_input.new.texts in
    let new = c.finish_all.new.texts in
    let grown = c.in_ok-push_input.ensures in
    let same : length mid ≡ length old = sym (length-map mid (state_of g.W.Write.contents)) ∙ grown.same ∙ length-map old (state_of g.W.Write.contents) in
    on_ok_weaker c.finish_all.result
    (λ ended.
    record {
      same = ended.same ∙ same;
      each = λ i h. ended_at (state_of g.W.Write.contents) (λ part. g.W.Write.contents (stream_of part)) text old mid new grown i h same (ended.each i (omega (arith, h, same)));
    })
    c.finish_all.ensures
