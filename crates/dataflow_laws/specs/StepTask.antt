-- Which task makes a step.
use Rattle.std.specs.Prelude.{ℕ}
use Rattle.dataflow_laws.specs.declared.step.Step.{Step}
use Rattle.dataflow_laws.specs.declared.step.Step.TheVariants.{Open, Read, Save, Stop, Close, Take, Put}

abbrev pub task_of : Step → ℕ
task_of (Open t) = t
task_of (Read t q) = t
task_of (Save t) = t
task_of (Stop t) = t
task_of (Close t) = t
task_of (Take t i) = t
task_of (Put t) = t
