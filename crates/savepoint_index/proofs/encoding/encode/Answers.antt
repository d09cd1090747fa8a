use Rattle.std.proofs.Common.{◌≤◌, length, subst, sym}
use Rattle.plan_model.specs.declared.limits.TheConstants.{MOST_AGGREGATES}
use Rattle.savepoint_codec.specs.Writing.{IsShort}
use Rattle.savepoint_codec.proofs.Facts.{short_contents}
use Rattle.savepoint_index.proofs.Fits.{few_kinds}
use Rattle.savepoint_index.proofs.encoding.encode.Goals as goal

pub put_front-requires : goal.put_front-requires
put_front-requires c = subst IsShort (sym c.contents-contents.ensures.says) (short_contents c.args.savepoint.now c.contents-contents.ensures.sound)

pub put_groups-requires-clause-short : goal.put_groups-requires-clause-short
put_groups-requires-clause-short c = subst IsShort (sym c.contents-contents.ensures.says) (short_contents c.args.savepoint.now c.contents-contents.ensures.sound)

pub put_groups-requires-clause-few : goal.put_groups-requires-clause-few
put_groups-requires-clause-few c = subst (λ s. length s.kinds ≤ MOST_AGGREGATES) (sym c.contents-contents.ensures.says) (few_kinds c.args.savepoint.now c.contents-contents.ensures.sound)
