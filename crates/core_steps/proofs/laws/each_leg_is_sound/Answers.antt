use Rattle.core_steps.proofs.Sound.{sound}
use Rattle.core_steps.proofs.laws.each_leg_is_sound.Goals as goal

pub returns : goal.returns
returns c = sound
