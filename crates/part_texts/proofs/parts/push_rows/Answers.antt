use Rattle.std.proofs.Common.{◌≡◌, ◌<◌, ◌∙◌, ℕ, Vec, Global, [], length, get_or, ap, sym, subst, arith}
use Rattle.std.specs.List.{All}
use Rattle.std.proofs.lemmas.List.{length-map, get_or-map}
use Rattle.input_parts.specs.Parts.{entry_of_rows}
use Rattle.key_dealing.specs.Dealing.{rows_at}
use Rattle.part_texts.specs.PartTexts.{with_entries, Takes}
use Rattle.part_texts.specs.Streams.{state_of, states_of, places_at}
use Rattle.part_texts.proofs.Steps.{none_done, part_done, all_done}
use Rattle.part_texts.proofs.parts.push_rows.Goals as goal

pub loop-place-init : goal.loop-place-init
loop-place-init g c = none_done (λ i p. with_entries p (entry_of_rows c.args.batch.now.width (rows_at c.args.batch.now.rows (places_at c.args.lists.now i)))) (states_of g.W.Write.contents c.args.texts.now)

pub push_rows-requires : goal.push_rows-requires
push_rows-requires g c =
    let rows = c.args.batch.now.rows in
    let y = c.index-lists-place.result in
    subst (All (λ place. place < length rows)) (sym (c.deref.ensures.value ∙ ap (λ (places : Vec ℕ Global). places.items) c.index-lists-place.is)) (c.requires.inside c.loop-place.place y (omega arith)).inside

pub loop-place-preserved : goal.loop-place-preserved
loop-place-preserved g c =
    let batch = c.args.batch.now in
    let lists = c.args.lists.now in
    let place = c.loop-place.place in
    let held = λ (places : Vec ℕ Global). places.items in
    let y = c.index-lists-place.result in
    let places : c.deref.result.now ≡ places_at lists place = c.deref.ensures.value ∙ ap held c.index-lists-place.is ∙ sym (get_or-map held lists place y [] (omega arith)) in
    let taken = subst (λ ks. Takes (λ p. with_entries p (entry_of_rows batch.width (rows_at batch.rows ks))) (state_of g.W.Write.contents (get_or c.loop-place.texts place c.index-texts-place.result)) (state_of g.W.Write.contents c.push_rows.new.self)) places c.in_ok-push_rows.ensures in
    part_done (state_of g.W.Write.contents) (λ i p. with_entries p (entry_of_rows c.args.batch.now.width (rows_at c.args.batch.now.rows (places_at c.args.lists.now i)))) c.loop-place.place c.args.texts.now c.loop-place.texts c.index-texts-place.result c.push_rows.new.self (omega arith) taken c.loop-place.invariant

pub returns : goal.returns
returns g c = all_done (λ i p. with_entries p (entry_of_rows c.args.batch.now.width (rows_at c.args.batch.now.rows (places_at c.args.lists.now i)))) c.loop-place.place (states_of g.W.Write.contents c.args.texts.now) (states_of g.W.Write.contents c.loop-place.texts) (omega (arith, length-map c.args.texts.now (state_of g.W.Write.contents))) c.loop-place.invariant
