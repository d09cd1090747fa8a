-- A small leg of any plan: one source with one partition of two entries, one window task and the sink, with a savepoint
-- after the first entry and a stop after the second.
use Rattle.std.specs.Prelude.{ℕ, zero, suc, ◌==◌, ℤ, pos, [], ◌∷◌, replicate, Bool, true, false}
use Rattle.std.specs.FinMap.{empty}
use Rattle.plain_data.specs.Times.{lowest, highest}
use Rattle.plan_model.specs.PlanData.{PlanData}
use Rattle.dataflow_model.specs.declared.message.Message.{Message}
use Rattle.dataflow_model.specs.declared.message.Message.TheVariants.{Rows, Watermark}
use Rattle.dataflow_model.specs.declared.role.Role.TheVariants.{Source, Window, Sink}
use Rattle.dataflow_model.specs.declared.ending.Ending.TheVariants.{AtCut}
use Rattle.dataflow_model.specs.AbstractTask.{Whole, Split, AbstractTask}
use Rattle.dataflow_model.specs.AbstractLayout.{AbstractLayout, IsLayout}
use Rattle.dataflow_model.specs.State.{State}
use Rattle.dataflow_model.specs.Opening.{opening}
use Rattle.dataflow_model.specs.Start.{IsLegStart, IsStart}
use Rattle.dataflow_model.specs.Cuts.{AreOrderlySources}
use Rattle.dataflow_laws.specs.Admission.{IsAdmittedInput}

-- a record of zeros, and then the watermark that the partition has come to its end
abbrev pub small_entry : PlanData → ℕ → Message
small_entry p zero = Rows (record { width = p.columns; rows = replicate p.columns (pos 0) ∷ [] })
small_entry p (suc n) = Watermark highest

abbrev pub small_brings : ℕ → ℤ
small_brings zero = lowest
small_brings (suc n) = highest

abbrev pub small_watermark : ℕ → ℤ
small_watermark zero = lowest
small_watermark (suc n) = small_brings n

abbrev pub small_limit : ℕ → ℕ
small_limit zero = 1
small_limit (suc m) = 2

-- tasks after the sink have no ring
abbrev pub past_sink : ℕ → ℕ
past_sink zero = 1
past_sink (suc t) = 0

abbrev pub small_source : PlanData → AbstractTask
small_source p = record {
  role = Source;
  inputs = 1;
  outputs = 1;
  routing = Split (λ key. 0);
  keeps = λ r. true;
  source = 0;
  partition = λ q. 0;
  entry = λ q. small_entry p;
  brings = λ q. small_brings;
  watermark = λ q. small_watermark;
  size = λ q. 2;
  first = 1;
  saves = 1;
  limit = λ m q. small_limit m;
  ending = AtCut;
}

abbrev pub small_task : PlanData → ℕ → AbstractTask
small_task p zero = small_source p
small_task p (suc zero) = record (small_source p) { role = Window; routing = Whole }
small_task p (suc (suc t)) = record (small_source p) { role = Sink; inputs = past_sink t; outputs = 0; routing = Whole }

abbrev pub small_ring : ℕ → ℕ → Bool
small_ring zero t = t == 1
small_ring (suc zero) t = t == 2
small_ring (suc (suc s)) t = false

abbrev pub small_from : ℕ → ℕ
small_from zero = 0
small_from (suc t) = t

abbrev pub small_layout : PlanData → AbstractLayout
small_layout p = record {
  before = 1;
  sink = 2;
  task = small_task p;
  first_task = λ x. 0;
  parallelism = λ x. 1;
  ring = small_ring;
  from = λ t i. small_from t;
  to = λ s j. suc s;
  out_at = λ s t. 0;
  in_at = λ s t. 0;
  owner = λ key. 1;
  pass = λ r. true;
  rest = λ t r. true;
}

abbrev pub small_start : ℕ → State
small_start zero = opening 1 (0 ∷ []) (lowest ∷ []) empty
small_start (suc zero) = opening 1 [] (replicate 1 lowest) empty
small_start (suc (suc t)) = opening (past_sink t) [] (replicate (past_sink t) lowest) empty

-- it meets what the laws of legs ask for, and begins with the snapshot of its beginning
abbrev pub SmallLeg : Type 0
SmallLeg = (p : PlanData) → IsLayout (small_layout p) × IsLegStart p (small_layout p) small_start × IsAdmittedInput p (small_layout p) × AreOrderlySources p (small_layout p) × IsStart p (small_layout p) small_start lowest
