use Rattle.std.proofs.Common.{◌≡◌, ◌-◌, ◌+◌, ◌*◌, [], ◌∷◌, ◌++◌, length, drop, get_or, ap, sym, subst, ◌∙◌, arith}
use Rattle.std.proofs.lemmas.List.{drop_all, drop-drop}
use Rattle.std.proofs.lemmas.Str.{IsAscii-append, IsAscii-drop}
use Rattle.std.proofs.lemmas.Str.Ascii.{IsAscii-nil, IsAscii-cons}
use Rattle.std.specs.List.{flat_map}
use Rattle.std.specs.Str.{IsAscii}
use Rattle.plain_data.specs.Record.{Record}
use Rattle.part_texts.specs.InputTexts.{record_text, records_text}
use Rattle.part_texts.proofs.Commas.{commas, one_before, room_before}
use Rattle.part_texts.proofs.records.put_records.Goals as goal

pub put_record-start-requires-clause-room : goal.put_record-start-requires-clause-room
put_record-start-requires-clause-room c =
    let most = 21 * c.args.batch.now.width + 2 in
    omega (arith, room_before c.loop-left.left most (omega arith), c.loop-left.invariant.room)

pub loop-left-init : goal.loop-left-init
loop-left-init c =
    let rows = c.args.batch.now.rows in
    let f = λ (r : Record). 44 ∷ record_text c.args.batch.now.width r in
    let line = c.args.line.now in
    let left = c.len-left.result in
    let most = 21 * c.args.batch.now.width + 2 in
    let none : drop left rows ≡ [] = drop_all left rows (omega arith) in
    let past : drop (length line) line ≡ [] = drop_all (length line) line (omega arith) in
    record {
      few = omega arith;
      moved = omega arith;
      room = omega (arith, ap (λ k. k * most) c.len-left.ensures.says, c.requires.room);
      written = past ∙ ap (flat_map f) (sym none);
      ascii = subst (λ l. IsAscii (flat_map f l)) (sym none) IsAscii-nil;
    }

pub loop-left-preserved : goal.loop-left-preserved
loop-left-preserved c =
    let width = c.args.batch.now.width in
    let rows = c.args.batch.now.rows in
    let f = λ (r : Record). 44 ∷ record_text width r in
    let left = c.loop-left.left in
    let most = 21 * width + 2 in
    let before = one_before f rows [] left (omega arith) c.loop-left.invariant.few in
    record {
      few = omega arith;
      moved = omega arith;
      room = omega (arith, room_before left most (omega arith), c.loop-left.invariant.room, c.put_record-start.ensures.short);
      written = c.put_record-start.ensures.written ∙ ap (λ l. f (get_or rows (left - 1) []) ++ l) c.loop-left.invariant.written ∙ sym before;
      ascii =
          subst IsAscii (sym before)
          (IsAscii-append (f (get_or rows (left - 1) [])) (flat_map f (drop left rows)) (IsAscii-cons 44 (record_text width (get_or rows (left - 1) [])) (omega arith) c.put_record-start.ensures.ascii) c.loop-left.invariant.ascii);
    }

pub returns-clause-written : goal.returns-clause-written
returns-clause-written c =
    let width = c.args.batch.now.width in
    let rows = c.args.batch.now.rows in
    let zero' : c.loop-left.left ≡ 0 = omega arith in
    sym (drop-drop 1 c.loop-left.start c.loop-left.line)
    ∙ ap (drop 1)
    (c.loop-left.invariant.written
    ∙ ap (λ k. flat_map (λ (r : Record). 44 ∷ record_text width r) (drop k rows)) zero' ∙ commas (record_text width) rows c.requires.some)

pub returns-clause-ascii : goal.returns-clause-ascii
returns-clause-ascii c =
    let width = c.args.batch.now.width in
    let rows = c.args.batch.now.rows in
    let f = λ (r : Record). 44 ∷ record_text width r in
    let zero' : c.loop-left.left ≡ 0 = omega arith in
    let all : flat_map f (drop c.loop-left.left rows) ≡ 44 ∷ records_text width rows = ap (λ k. flat_map f (drop k rows)) zero' ∙ commas (record_text width) rows c.requires.some in
    IsAscii-drop (44 ∷ records_text width rows) 1 (subst IsAscii all c.loop-left.invariant.ascii)
