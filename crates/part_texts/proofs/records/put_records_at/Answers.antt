use Rattle.std.proofs.Common.{◌≡◌, ◌-◌, ◌+◌, ◌*◌, ℕ, [], ◌∷◌, ◌++◌, length, drop, get_or, ap, sym, ◌∙◌, arith}
use Rattle.std.proofs.lemmas.List.{drop_all, drop-drop}
use Rattle.std.proofs.lemmas.Simd.{map-map}
use Rattle.std.specs.List.{flat_map, join_with_byte}
use Rattle.part_texts.specs.InputTexts.{record_text}
use Rattle.part_texts.proofs.Commas.{commas, one_before, room_before}
use Rattle.part_texts.proofs.records.put_records_at.Goals as goal

pub put_record-start-requires-clause-room : goal.put_record-start-requires-clause-room
put_record-start-requires-clause-room c =
    let most = 21 * c.args.batch.now.width + 2 in
    omega (arith, room_before c.loop-left.left most (omega arith), c.loop-left.invariant.room)

pub put_record-start-requires-clause-row : goal.put_record-start-requires-clause-row
put_record-start-requires-clause-row c =
    c.requires.inside (c.loop-left.left - 1) 0 (omega arith)

pub loop-left-init : goal.loop-left-init
loop-left-init c =
    let places = c.args.places.now in
    let f = λ (k : ℕ). 44 ∷ record_text c.args.batch.now.width (get_or c.args.batch.now.rows k []) in
    let line = c.args.line.now in
    let none : drop (length places) places ≡ [] = drop_all (length places) places (omega arith) in
    let past : drop (length line) line ≡ [] = drop_all (length line) line (omega arith) in
    record {
      few = omega arith;
      moved = omega arith;
      room = c.requires.room;
      written = past ∙ ap (flat_map f) (sym none);
    }

pub loop-left-preserved : goal.loop-left-preserved
loop-left-preserved c =
    let width = c.args.batch.now.width in
    let rows = c.args.batch.now.rows in
    let places = c.args.places.now in
    let f = λ (k : ℕ). 44 ∷ record_text width (get_or rows k []) in
    let left = c.loop-left.left in
    let before = one_before f places 0 left (omega arith) c.loop-left.invariant.few in
    record {
      few = omega arith;
      moved = omega arith;
      room = omega (arith, room_before left (21 * width + 2) (omega arith), c.loop-left.invariant.room, c.put_record-start.ensures.short);
      written = c.put_record-start.ensures.written ∙ ap (λ l. f (get_or places (left - 1) 0) ++ l) c.loop-left.invariant.written ∙ sym before;
    }

pub returns-clause-written : goal.returns-clause-written
returns-clause-written c =
    let width = c.args.batch.now.width in
    let rows = c.args.batch.now.rows in
    let places = c.args.places.now in
    let text = λ (k : ℕ). record_text width (get_or rows k []) in
    let zero' : c.loop-left.left ≡ 0 = omega arith in
    sym (drop-drop 1 c.loop-left.start c.loop-left.line)
    ∙ ap (drop 1)
    (c.loop-left.invariant.written
    ∙ ap (λ k. flat_map (λ (j : ℕ). 44 ∷ text j) (drop k places)) zero' ∙ commas text places c.requires.some)
    ∙ ap (join_with_byte 44) (sym (map-map (record_text width) (λ (k : ℕ). get_or rows k []) places))
