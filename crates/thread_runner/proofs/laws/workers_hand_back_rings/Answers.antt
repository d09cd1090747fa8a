use Rattle.thread_runner.proofs.LegLemmas.{as_many, are_joined}
use Rattle.thread_runner.proofs.laws.workers_hand_back_rings.Goals as goal

pub returns : goal.returns
returns c = λ g ds worked. (as_many g ds worked, are_joined g ds worked)
