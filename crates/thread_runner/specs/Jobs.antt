-- What a worker's answer says of its job.
use Rattle.std.specs.Prelude.{◌≡◌, List, MatchOption}
use Rattle.std.specs.List.{AllZip}
use Rattle.stream_model.specs.InputData.{InputData}
use Rattle.dataflow_model.specs.Steps.{IsDone}
use Rattle.legs.specs.declared.fault.LegFault.TheVariants.{Memory}
use Rattle.task_steps.specs.TaskData.{TaskData}
use Rattle.thread_runner.specs.declared.ends.Sender.{Sender}
use Rattle.thread_runner.specs.declared.ends.Receiver.{Receiver}
use Rattle.thread_runner.specs.declared.jobs.Job.{Job}
use Rattle.thread_runner.specs.declared.jobs.Done.{Done}
use Rattle.thread_runner.specs.Works.{Finds, Works, WorksUpTo}

abbrev pub FindsInput : InputData → Job → Type 0
FindsInput i j = Finds i j.task

-- with no fault: the task is done, by local steps that account for all that its rings' ends took and put
abbrev pub HasWorked : InputData → TaskData → List Receiver → List Sender → Done → Type 0
HasWorked i task ins outs d =
    MatchOption d.fault (IsDone d.task.state × Works i task ins outs d.task d.inputs.items d.outputs.items)
    (λ fault. (fault ≡ Memory) × WorksUpTo i task ins outs d.task d.inputs.items d.outputs.items)

abbrev pub IsWorkOf : InputData → Job → Done → Type 0
IsWorkOf i j d = HasWorked i j.task j.inputs.items j.outputs.items d

-- the same of each job, place by place
abbrev pub AllWorkOf : InputData → List Job → List Done → Type 0
AllWorkOf i js ds = AllZip (IsWorkOf i) js ds
