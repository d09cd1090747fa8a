use Rattle.std.proofs.Common.{[], ◌∷◌, ◌++◌, length-append, arith}
use Rattle.row_commands.proofs.merging.texts_of.Goals as goal

pub loop-place-preserved : goal.loop-place-preserved
loop-place-preserved g c =
    let held = c.loop-place.invariant in
    let more = g.R.File.Read.remaining c.in_ok-file.file ∷ [] in
    (held.0 ++ more, omega (arith, held.1, length-append held.0 more), c.in_default.ensures held.0 held.2)
