use Rattle.std.proofs.Common.{sym, subst}
use Rattle.stream_model.specs.Watermarks.{IsCut}
use Rattle.input_flow.proofs.Facts.{full_is_cut}
use Rattle.leg_receipts.proofs.making.text_from.Goals as goal

pub text_at-requires-2-clause-cut : goal.text_at-requires-2-clause-cut
text_at-requires-2-clause-cut c = subst (IsCut c.args.input.now.sources) (sym c.in_ok-cut-2.ensures) (full_is_cut c.args.input.now.sources)
