-- What the steps of a source need, as the code tests it.
use Rattle.std.specs.Prelude.{◌≡◌, ℕ, ◌<◌, [], true, false, slice_index}
use Rattle.dataflow_model.specs.declared.role.Role.TheVariants.{Source}
use Rattle.dataflow_model.specs.declared.ending.Ending.{Ending}
use Rattle.dataflow_model.specs.declared.ending.Ending.TheVariants.{AtEnd, AtCut, Asked}
use Rattle.task_steps.specs.TaskData.{TaskData, limit_at}

pub record IsOpenable (t : TaskData) : Type 0 where
  pub source : t.setup.role ≡ Source
  pub idle : t.state.pending ≡ []
  pub shut : t.state.opened ≡ false

pub record IsRunning (t : TaskData) : Type 0 where
  pub source : t.setup.role ≡ Source
  pub idle : t.state.pending ≡ []
  pub opened : t.state.opened ≡ true
  pub going : t.state.over ≡ false

-- every partition is read up to its limit
abbrev pub HasCome : TaskData → Type 0
HasCome t = (q : ℕ) → q < t.setup.inputs → slice_index t.state.offsets q ≡ limit_at t.setup t.state.next q

abbrev pub StopsBy : Ending → TaskData → Type 0
StopsBy AtEnd t = ⊥
StopsBy AtCut t = HasCome t
StopsBy Asked t = Unit {0}

abbrev pub ClosesBy : Ending → TaskData → Type 0
ClosesBy AtEnd t = HasCome t
ClosesBy AtCut t = ⊥
ClosesBy Asked t = HasCome t

pub record IsStoppable (t : TaskData) : Type 0 where
  pub running : IsRunning t
  pub next : t.state.next ≡ t.setup.saves
  pub by : StopsBy t.setup.ending t

pub record IsClosable (t : TaskData) : Type 0 where
  pub running : IsRunning t
  pub next : t.state.next ≡ t.setup.saves
  pub by : ClosesBy t.setup.ending t

pub record IsSavable (t : TaskData) : Type 0 where
  pub running : IsRunning t
  pub next : t.state.next < t.setup.saves
  pub come : HasCome t
