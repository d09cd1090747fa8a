use Rattle.std.proofs.Common.{rules, ◌≡◌, ◌+◌, [], ◌∷◌, ◌++◌, take, get_or, sym, ap, ◌∙◌, append_assoc, append-nil}
use Rattle.std.proofs.lemmas.List.{take_more}
use Rattle.csv.specs.Writing.{default_writer, escaped}
use Rattle.row_export.specs.Records.{escaped_byte}
use Rattle.row_export.proofs.Records.{escaped_none, escaped_more}
use Rattle.row_export.proofs.fields.put_escaped.Goals as goal

pub loop-byte-init : goal.loop-byte-init
loop-byte-init c = sym (ap (λ l. c.args.line.now.items ++ l) escaped_none ∙ append-nil c.args.line.now.items)

pub loop-byte-preserved : goal.loop-byte-preserved
loop-byte-preserved c =
    let before = c.args.line.now.items in
    let text = c.args.text.now in
    let at = c.loop-byte.byte-index in
    let byte = get_or text at 0 in
    let done = escaped default_writer (take at text) in
    let next : c.put_byte.new.line.items ≡ c.loop-byte.line.items ++ escaped_byte byte = search rules in
    let more : take (at + 1) text ≡ take at text ++ byte ∷ [] = take_more text at 0 c.loop-byte-test.true in
    let last : escaped default_writer (take (at + 1) text) ≡ done ++ escaped_byte byte = ap (escaped default_writer) more ∙ escaped_more (take at text) byte in
    next ∙ ap (λ l. l ++ escaped_byte byte) c.loop-byte.invariant ∙ append_assoc before done (escaped_byte byte) ∙ ap (λ l. before ++ l) (sym last)
