use Rattle.std.proofs.Common.{ℤ, to_z, of_z, subst, arith, rules}
use Rattle.std.proofs.lemmas.Int.{to_z-of_z}
use Rattle.std.proofs.lemmas.List.{length-map}
use Rattle.part_texts.specs.Streams.{state_of, states_of}
use Rattle.part_texts.proofs.Steps.{none_done, part_done, all_done}
use Rattle.std.specs.Int.{w64}
use Rattle.part_texts.specs.InputTexts.{mark_entry}
use Rattle.part_texts.specs.PartTexts.{with_text, Each}
use Rattle.part_texts.proofs.parts.push_marks.Goals as goal

pub loop-place-init : goal.loop-place-init
loop-place-init g c = none_done (λ i p. with_text p (mark_entry (to_z w64 (of_z w64 c.args.time)))) (states_of g.W.Write.contents c.args.texts.now)

pub loop-place-preserved : goal.loop-place-preserved
loop-place-preserved g c =
    part_done (state_of g.W.Write.contents) (λ i p. with_text p (mark_entry (to_z w64 (of_z w64 c.args.time)))) c.loop-place.place c.args.texts.now c.loop-place.texts c.index-texts-place.result c.push_mark.new.self (omega arith) c.in_ok-push_mark.ensures c.loop-place.invariant

pub returns : goal.returns
returns g c =
    subst (λ (t : ℤ). Each (λ i p. with_text p (mark_entry t)) (states_of g.W.Write.contents c.args.texts.now) (states_of g.W.Write.contents c.loop-place.texts)) (to_z-of_z w64 c.args.time (search rules))
    (all_done (λ i p. with_text p (mark_entry (to_z w64 (of_z w64 c.args.time)))) c.loop-place.place (states_of g.W.Write.contents c.args.texts.now) (states_of g.W.Write.contents c.loop-place.texts) (omega (arith, length-map c.args.texts.now (state_of g.W.Write.contents))) c.loop-place.invariant)
