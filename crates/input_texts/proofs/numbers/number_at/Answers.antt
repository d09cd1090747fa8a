use Rattle.std.proofs.Common.{◌<◌, length, sym, ◌∙◌, to_z-of_z, w64}
use Rattle.std.proofs.lemmas.Bool.{ltb-true}
use Rattle.input_texts.proofs.Rows.{number_in}
use Rattle.input_texts.proofs.numbers.number_at.Goals as goal

pub returns-in-Some : goal.returns-in-Some
returns-in-Some c =
    let there : c.args.column < length c.args.row.now = ltb-true _ _ (sym c.in-Some.ensures.lookup.0) in
    to_z-of_z {w = w64} {z = c.number_of.result} c.number_of.ensures.fits ∙ c.number_of.ensures.says ∙ sym (number_in c.args.row.now c.args.column c.in-Some.cell.now there c.in-Some.ensures.lookup.1)
