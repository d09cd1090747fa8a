use Rattle.std.proofs.Common.{◌++◌, ap, ◌∙◌, arith}
use Rattle.task_steps.specs.Pending.{numbered}
use Rattle.task_steps.proofs.Sent.{sends_dealt, length_dealt}
use Rattle.task_steps.proofs.sending.send_dealt.Goals as goal

pub to_each-requires-clause-room : goal.to_each-requires-clause-room
to_each-requires-clause-room c = let long = length_dealt c.args.split.max c.args.split.par c.args.key c.args.batch.now c.in_ok-pieces.pieces.items c.in_ok-pieces.ensures.pieces in omega arith

pub to_each-requires-clause-few : goal.to_each-requires-clause-few
to_each-requires-clause-few c = let long = length_dealt c.args.split.max c.args.split.par c.args.key c.args.batch.now c.in_ok-pieces.pieces.items c.in_ok-pieces.ensures.pieces in omega arith

pub returns-clause-pending : goal.returns-clause-pending
returns-clause-pending c =
    c.to_each.ensures.pending
    ∙ ap (λ l. l ++ numbered 0 c.in_ok-pieces.pieces.items) c.requires.idle
    ∙ ap (numbered 0) c.in_ok-pieces.ensures.pieces
    ∙ sends_dealt c.args.split c.args.key 0 c.args.batch.now
