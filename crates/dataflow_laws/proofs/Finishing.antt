-- Worlds come to be finished.
use Rattle.std.proofs.Common.{ℕ, zero, suc, ◌<◌, [], sym, subst, inl, inr, arith}
use Rattle.plan_model.specs.PlanData.{PlanData}
use Rattle.dataflow_model.specs.AbstractLayout.{AbstractLayout, IsLayout}
use Rattle.dataflow_model.specs.State.{State}
use Rattle.dataflow_model.specs.Steps.{IsDone}
use Rattle.dataflow_model.specs.History.{History, IsComplete}
use Rattle.dataflow_laws.specs.World.{World, IsEnd}
use Rattle.dataflow_laws.specs.World.Reached.{begins}
use Rattle.dataflow_model.specs.Start.{IsLegStart}
use Rattle.dataflow_laws.specs.Admission.{IsAdmittedInput}
use Rattle.dataflow_laws.specs.Progress.{IsFinished}
use Rattle.dataflow_laws.specs.Measure.{world_cost}
use Rattle.dataflow_laws.specs.Finish.{Leads, WorldsFinish, LegsComplete}
use Rattle.dataflow_laws.specs.Finish.Leads.{stays, goes}
use Rattle.dataflow_laws.proofs.Worlds.{moves_keep_histories, worlds_are_histories}
use Rattle.dataflow_laws.proofs.Going.{progress}
use Rattle.dataflow_laws.proofs.Falling.{falls}

record Finish (p : PlanData) (l : AbstractLayout) (capacity : ℕ) (start : ℕ → State) (w : World) : Type 0 where
  world : World
  leads : Leads p l capacity w world
  ends : IsEnd p l start world
  finished : IsFinished l world

finish : (p : PlanData) (l : AbstractLayout) (capacity : ℕ) (start : ℕ → State) → IsLayout l → 0 < capacity → IsLegStart p l start → IsAdmittedInput p l → (n : ℕ) (w : World) → world_cost l w < n → IsEnd p l start w → Finish p l capacity start w
finish p l capacity start ok some b input zero w less r = absurd (omega (arith, less))
finish p l capacity start ok some b input (suc n) w less r =
    elim (progress p l capacity start w ok some b input r) [
      | inl f ↦ record { world = w; leads = stays; ends = r; finished = f }
      | inr m ↦
          (let c = falls p l capacity start w m.task m.event m.next ok b r m.move in
          let x = finish p l capacity start ok some b input n m.next (omega (arith, c, less)) (moves_keep_histories p l capacity start w m.task m.event m.next ok r m.move) in
          record { world = x.world; leads = goes m.move x.leads; ends = x.ends; finished = x.finished })
    ]

pub worlds_finish : WorldsFinish
worlds_finish p l capacity start w ok some b input r = let x = finish p l capacity start ok some b input (suc (world_cost l w)) w (omega arith) r in (x.world, x.leads, x.finished, x.ends)

complete_by : (p : PlanData) (l : AbstractLayout) (start : ℕ → State) (w : World) → IsEnd p l start w → IsFinished l w → (h : History p l start) × IsComplete h
complete_by p l start w (h, e) f = (h, λ t m. subst (λ (tasks : ℕ → State). IsDone (tasks t)) (sym e.tasks) (f t m))

pub legs_complete : LegsComplete
legs_complete p l start ok b input =
    let w : World = record { tasks = start; rings = λ s t. [] } in
    let x = finish p l 1 start ok (omega arith) b input (suc (world_cost l w)) w (omega arith) (worlds_are_histories p l 1 start w ok begins) in
    complete_by p l start x.world x.ends x.finished
