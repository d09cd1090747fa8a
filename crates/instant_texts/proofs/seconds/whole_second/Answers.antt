use Rattle.std.proofs.Common.{ap, sym, ◌∙◌}
use Rattle.field_values.specs.Instants.{milliseconds_said}
use Rattle.instant_texts.proofs.Forms.{not_whole, whole_is}
use Rattle.instant_texts.proofs.seconds.whole_second.Goals as goal

pub returns-then-clock-ne19 : goal.returns-then-clock-ne19
returns-then-clock-ne19 c = sym (not_whole c.args.clock.now c.args.zone.now c.then-clock-ne19.either)

pub returns : goal.returns
returns c = c.milliseconds.ensures ∙ ap milliseconds_said c.joined-whole.ensures ∙ whole_is c.args.clock.now c.args.zone.now c.if-clock-ne19.false c.requires
