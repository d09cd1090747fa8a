-- What makes a layout's tasks the tasks of one leg.
use Rattle.std.specs.Prelude.{◌≡◌, ℕ, suc, ◌<◌, ◌≤◌, slice_index}
use Rattle.dataflow_model.specs.declared.role.Role.TheVariants.{Source}
use Rattle.dataflow_model.specs.declared.ending.Ending.TheVariants.{AtCut, Asked}
use Rattle.dataflow_model.specs.State.{State}
use Rattle.dataflow_model.specs.AbstractLayout.{AbstractLayout}

pub record IsOneLeg (l : AbstractLayout) (start : ℕ → State) : Type 0 where
  -- all tasks have the same barriers, and end in the same way
  pub alike : (t : ℕ) → t ≤ l.sink → ((l.task t).first ≡ (l.task l.sink).first) × ((l.task t).saves ≡ (l.task l.sink).saves) × ((l.task t).ending ≡ (l.task l.sink).ending)
  -- the limits of each partition rise from where it begins, up to its end or to a cut before
  pub from : (t q : ℕ) → t < l.before → (l.task t).role ≡ Source → q < (l.task t).inputs → slice_index (start t).offsets q ≤ (l.task t).limit 0 q
  pub rises : (t m q : ℕ) → t < l.before → (l.task t).role ≡ Source → q < (l.task t).inputs → m < (l.task t).saves → (l.task t).limit m q ≤ (l.task t).limit (suc m) q
  pub within : (t q : ℕ) → t < l.before → (l.task t).role ≡ Source → q < (l.task t).inputs → (l.task t).limit (l.task t).saves q ≤ (l.task t).size q
  pub whole : (t q : ℕ) → t < l.before → (l.task t).role ≡ Source → q < (l.task t).inputs → ((l.task t).ending ≡ AtCut → ⊥) → (l.task t).limit (l.task t).saves q ≡ (l.task t).size q
  -- a leg that may be asked to stop takes no savepoint while it goes on
  pub asked : (l.task l.sink).ending ≡ Asked → (l.task l.sink).saves ≡ 0
