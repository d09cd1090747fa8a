use Rattle.std.proofs.Common.{◌≡◌, length, drop, ◌∙◌}
use Rattle.std.proofs.lemmas.List.{take_at}
use Rattle.thread_runner.proofs.WorkLemmas.{match_of}
use Rattle.thread_runner.proofs.work.worker.Goals as goal

pub returns : goal.returns
returns g c =
    let ins : length c.work-fault.new.inputs ≡ c.args.inputs.len = c.work-fault.auto.inputs ∙ c.as_mut_slice.ensures.len in
    let outs : length c.work-fault.new.outputs ≡ c.args.outputs.len = c.work-fault.auto.outputs ∙ c.as_mut_slice-2.ensures.len in
    rw (
      take_at c.work-fault.new.inputs (drop (length c.work-fault.new.inputs) c.args.inputs.items) c.args.inputs.len ins,
      take_at c.work-fault.new.outputs (drop (length c.work-fault.new.outputs) c.args.outputs.items) c.args.outputs.len outs,
      ← c.as_mut_slice.ensures.value,
      ← c.as_mut_slice-2.ensures.value,
    ) (match_of c.work-fault.result _ _ c.work-fault.ensures.none c.work-fault.ensures.fault)
