use Rattle.std.proofs.Common.{ℕ, List, take, subst}
use Rattle.memchr.specs.Find.{IsFirstByte, is_byte}
use Rattle.row_lines.specs.Lines.{held_of}
use Rattle.row_lines.proofs.Places.{first_place, window_of}
use Rattle.row_lines.proofs.lines.Lines.place.Goals as goal

pub returns : goal.returns
returns g c =
    let window = window_of c.held-held.result.now (held_of c.args.self.now) c.min.result c.held-held.ensures c.min.ensures in
    first_place (take 391 (held_of c.args.self.now)) c.memchr.result (subst (λ (hay : List ℕ). IsFirstByte (is_byte 10) hay c.memchr.result) window c.memchr.ensures)
