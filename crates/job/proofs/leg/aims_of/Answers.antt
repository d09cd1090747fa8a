use Rattle.std.proofs.Common.{◌∙◌, List, Result, Ok, ap, sym}
use Rattle.legs.specs.declared.cut.Cut.{Cut}
use Rattle.legs.specs.declared.stop.Stop.TheVariants.{Never}
use Rattle.job_texts.specs.declared.fault.JobFault.{JobFault}
use Rattle.job.specs.declared.leg.LegStop.{LegStop}
use Rattle.job.specs.Asked.{words_of}
use Rattle.job.specs.Leg.{LegAims, aims_said, saves_said, stop_said}
use Rattle.job.proofs.leg.aims_of.Goals as goal

pub returns-in-Asked-clause-reads : goal.returns-in-Asked-clause-reads
unfolding aims_said saves_said stop_said
returns-in-Asked-clause-reads c =
    let to_end : List Cut → Result LegAims JobFault = λ saves. Ok (record { saves = saves; stop = Never }) in
    ap (λ (stop : LegStop). aims_said (words_of stop)) c.in-Asked.is ∙ ap to_end (sym (c.from_vec.ensures ∙ c.new.ensures.items))
