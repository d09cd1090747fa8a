use Rattle.std.proofs.Common.{◌≡◌, ℕ, ◌<◌, ◌≤◌, ◌-◌, ◌+◌, [], ◌∷◌, ◌++◌, map, drop, get_or, ap, sym, subst, ◌∙◌, append_assoc, arith, rules, to_z, of_z}
use Rattle.std.proofs.lemmas.Int.{to_z-of_z}
use Rattle.std.proofs.lemmas.List.{drop_all}
use Rattle.std.proofs.lemmas.List.FromFn.{length-range_with_len, get_or-range_with_len}
use Rattle.std.proofs.lemmas.Str.{IsAscii-append, IsAscii-drop}
use Rattle.std.proofs.lemmas.Str.Ascii.{IsAscii-nil}
use Rattle.std.specs.Int.{w64}
use Rattle.std.specs.Fmt.{signed_decimal}
use Rattle.std.specs.List.{flat_map, join_with_byte, range_with_len}
use Rattle.std.specs.Str.{IsAscii}
use Rattle.plain_data.specs.Record.{at}
use Rattle.part_texts.proofs.Commas.{commas, one_before}
use Rattle.part_texts.proofs.records.put_cells.Goals as goal

pub loop-left-init : goal.loop-left-init
loop-left-init c =
    let width = c.args.batch.now.width in
    let f = λ (k : ℕ). 44 ∷ signed_decimal (at k (get_or c.args.batch.now.rows c.args.row [])) in
    let none : drop c.width-left.result (range_with_len 0 width) ≡ [] = drop_all c.width-left.result (range_with_len 0 width) (omega (arith, length-range_with_len 0 width)) in
    record {
      few = omega arith;
      moved = omega arith;
      room = omega arith;
      written = ap (λ l. flat_map f l ++ drop c.args.end c.args.line.now) (sym none);
      ascii = subst (λ l. IsAscii (flat_map f l)) (sym none) IsAscii-nil;
    }

pub loop-left-preserved : goal.loop-left-preserved
loop-left-preserved c =
    let width = c.args.batch.now.width in
    let row = get_or c.args.batch.now.rows c.args.row [] in
    let f = λ (k : ℕ). 44 ∷ signed_decimal (at k row) in
    let range = range_with_len 0 width in
    let left = c.loop-left.left in
    let rest = drop c.args.end c.args.line.now in
    let some : 0 < left = omega arith in
    let few : left ≤ width = c.loop-left.invariant.few in
    let none : 0 + (left - 1) ≡ left - 1 = omega arith in
    let here : get_or range (left - 1) 0 ≡ left - 1 = get_or-range_with_len 0 width (left - 1) 0 (omega arith) ∙ none in
    let before : flat_map f (drop (left - 1) range) ≡ f (left - 1) ++ flat_map f (drop left range) =
    one_before f range 0 left some (omega (arith, few, length-range_with_len 0 width)) ∙ ap (λ k. f k ++ flat_map f (drop left range)) here in
    let z = c.value.result in
    let valued : to_z w64 (of_z w64 z) ≡ at (left - 1) row = to_z-of_z w64 z (search rules) ∙ c.value.ensures in
    record {
      few = omega arith;
      moved = omega arith;
      room = omega arith;
      written =
          c.put_number-start.ensures.written ∙ (λ i. (44 ∷ signed_decimal (valued i)) ++ c.loop-left.invariant.written i)
          ∙ sym (append_assoc (f (left - 1)) (flat_map f (drop left range)) rest) ∙ ap (λ l. l ++ rest) (sym before);
      ascii =
          subst IsAscii (sym before)
          (IsAscii-append (f (left - 1)) (flat_map f (drop left range)) (subst (λ n. IsAscii (44 ∷ signed_decimal n)) valued c.put_number-start.ensures.ascii) c.loop-left.invariant.ascii);
    }

pub returns-clause-written : goal.returns-clause-written
returns-clause-written c =
    let width = c.args.batch.now.width in
    let row = get_or c.args.batch.now.rows c.args.row [] in
    let f = λ (k : ℕ). 44 ∷ signed_decimal (at k row) in
    let range = range_with_len 0 width in
    let zero' : c.loop-left.left ≡ 0 = omega arith in
    c.loop-left.invariant.written
    ∙ ap (λ l. l ++ drop c.args.end c.args.line.now)
    (ap (λ k. flat_map f (drop k range)) zero' ∙ commas (λ (k : ℕ). signed_decimal (at k row)) range (omega (arith, length-range_with_len 0 width)))

pub returns-clause-ascii : goal.returns-clause-ascii
returns-clause-ascii c =
    let width = c.args.batch.now.width in
    let row = get_or c.args.batch.now.rows c.args.row [] in
    let f = λ (k : ℕ). 44 ∷ signed_decimal (at k row) in
    let range = range_with_len 0 width in
    let cells = join_with_byte 44 (map (λ (k : ℕ). signed_decimal (at k row)) range) in
    let zero' : c.loop-left.left ≡ 0 = omega arith in
    let all : flat_map f (drop c.loop-left.left range) ≡ 44 ∷ cells =
    ap (λ k. flat_map f (drop k range)) zero' ∙ commas (λ (k : ℕ). signed_decimal (at k row)) range (omega (arith, length-range_with_len 0 width)) in
    IsAscii-drop (44 ∷ cells) 1 (subst IsAscii all c.loop-left.invariant.ascii)
