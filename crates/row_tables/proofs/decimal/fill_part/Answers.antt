use Rattle.std.proofs.Common.{rules, arith, ◌≡◌, ◌+◌, ◌<◌, ◌∷◌, [], ◌++◌, drop, length, sym, ap, ◌∙◌, append-nil, drop-drop}
use Rattle.std.proofs.lemmas.Fmt.{decimal_nonempty, length-decimal-le}
use Rattle.std.proofs.lemmas.List.{drop-set, drop_all}
use Rattle.std.specs.Fmt.{decimal}
use Rattle.row_tables.proofs.decimal.fill_part.Goals as goal

pub write_digits-point-requires : goal.write_digits-point-requires
write_digits-point-requires c = (omega (arith, length-decimal-le 19 (c.args.scale + c.args.part) (omega arith) (omega arith) (omega arith)), search rules)

pub bounds-room-point : goal.bounds-room-point
bounds-room-point c = omega (arith, c.write_digits-point.ensures.start, decimal_nonempty (c.args.scale + c.args.part) (omega arith))

pub returns-clause-text : goal.returns-clause-text
returns-clause-text c =
    let at = c.write_digits-point.result in
    let room = c.write_digits-point.new.buf in
    let n = c.args.scale + c.args.part in
    let long : length room ≡ 48 = search rules in
    let inside : at < length room = omega (arith, long, c.write_digits-point.ensures.start, decimal_nonempty n (omega arith)) in
    let written : drop at room ≡ decimal n = c.write_digits-point.ensures.written ∙ ap (λ l. decimal n ++ l) (drop_all 48 c.args.room.now (omega arith)) ∙ append-nil (decimal n) in
    drop-set room at 46 inside ∙ ap (λ l. 46 ∷ l) (sym (drop-drop 1 at room) ∙ ap (drop 1) written)
