use Rattle.std.proofs.Common.{rules}
use Rattle.std.proofs.lemmas.List.{places}
use Rattle.job_texts.proofs.Loses.{loses_more}
use Rattle.job_texts.proofs.readers.read_all.Goals as goal

pub returns-in_err-add_piece-clause-lost : goal.returns-in_err-add_piece-clause-lost
returns-in_err-add_piece-clause-lost g c =
    let before = c.loop.invariant in
    loses_more _ _ _ _ c.loop.bytes.items _ before.2 (search (rules, places)) (search (rules, places)) c.in_err-add_piece.ensures.lost
