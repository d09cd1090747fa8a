-- Tasks that open with a snapshot are such as the theory asks for.
use Rattle.std.proofs.Common.{◌≡◌, ℕ, zero, suc, ◌+◌, ◌-◌, ◌<◌, ◌≤◌, List, [], length, get_or, replicate, true, sym, ap, subst, ◌∙◌, arith, ℤ, pos, None}
use Rattle.std.specs.FinMap.{get, empty}
use Rattle.plain_data.specs.Times.{lowest}
use Rattle.plan_model.specs.declared.spec.Pane.{Pane}
use Rattle.plan_model.specs.PlanData.{PlanData}
use Rattle.plan_model.specs.Rows.{is_due}
use Rattle.dataflow_model.specs.declared.role.Role.{Role}
use Rattle.dataflow_model.specs.declared.role.Role.TheVariants.{Source, Chain, Window, Sink}
use Rattle.dataflow_model.specs.AbstractTask.{AbstractTask, Routing, Whole, Split}
use Rattle.dataflow_model.specs.AbstractLayout.{AbstractLayout, IsLayout, Sends}
use Rattle.dataflow_model.specs.State.{Windows, State}
use Rattle.dataflow_model.specs.Opening.{opening, IsOpening, IsSourceOpening}
use Rattle.dataflow_model.specs.OneLeg.{IsOneLeg}
use Rattle.dataflow_model.specs.Cuts.{AreOrderlySources}
use Rattle.dataflow_model.specs.Start.{AreOpenings, IsStart}
use Rattle.dataflow_laws.proofs.Streams.{Reaches}
use Rattle.dataflow_laws.proofs.Relay.{IsFresh}
use Rattle.dataflow_laws.proofs.Reader.{IsReady}
use Rattle.dataflow_laws.proofs.Windows.{IsRestored}
use Rattle.dataflow_laws.proofs.Graph.{IsOpened}
use Rattle.dataflow_laws.proofs.Legs.{IsBegun}

-- whatever a task does, it opens so
pub record IsOpenedAs (k : AbstractTask) (s : State) : Type 0 where
  pub offsets : List ℕ
  pub marks : List ℤ
  pub windows : Windows
  pub is : s ≡ opening k.inputs offsets marks windows

pub opened_as : (p : PlanData) (role : Role) (k : AbstractTask) (s : State) → IsOpening p role k s → IsOpenedAs k s
opened_as p Source k s o = record { offsets = o.offsets; marks = o.marks; windows = empty; is = o.is }
opened_as p Chain k s o = record { offsets = []; marks = replicate k.inputs lowest; windows = empty; is = o }
opened_as p Window k s o = record { offsets = []; marks = replicate k.inputs lowest; windows = o.0; is = o.1 }
opened_as p Sink k s o = record { offsets = []; marks = replicate k.inputs lowest; windows = empty; is = o }

reaches_by : (l : AbstractLayout) (t : ℕ) (routing : Routing) → Sends l t routing → 0 < (l.task t).outputs → Reaches routing (l.task t).outputs 0
reaches_by l t Whole sends some = some
reaches_by l t (Split owner) sends some = λ key. (sends key).0

reaches_first : (l : AbstractLayout) (t c : ℕ) → IsLayout l → t < l.before → c ≡ 0 → Reaches (l.task t).routing (l.task t).outputs c
reaches_first l t c ok m e = subst (Reaches (l.task t).routing (l.task t).outputs) (sym e) (reaches_by l t (l.task t).routing (ok.sends t m) (ok.some_output t m))

-- how far a partition is read rises up to the end of the leg
limits_rise : (l : AbstractLayout) (start : ℕ → State) → IsOneLeg l start → (t : ℕ) → t < l.before → (l.task t).role ≡ Source → (q : ℕ) → q < (l.task t).inputs → (n m : ℕ) → m + n ≡ (l.task t).saves → (l.task t).limit m q ≤ (l.task t).limit (l.task t).saves q
limits_rise l start leg t b a q k zero m e = (let z : m ≡ (l.task t).saves = omega arith in rw z (omega arith))
limits_rise l start leg t b a q k (suc n) m e =
    let r = leg.rises t m q b a k (omega arith) in
    let i = limits_rise l start leg t b a q k n (suc m) (omega arith) in
    omega (arith, r, i)

module _ (p : PlanData) (l : AbstractLayout) (start : ℕ → State) (ok : IsLayout l) (orderly : AreOrderlySources p l) (leg : IsOneLeg l start) (opens : AreOpenings p l start) where
  pub limits_of : (t : ℕ) → t < l.before → (l.task t).role ≡ Source → (m q : ℕ) → q < (l.task t).inputs → m ≤ (l.task t).saves → ((l.task t).limit m q ≤ (l.task t).limit (l.task t).saves q) × ((l.task t).limit (l.task t).saves q ≤ (l.task t).size q)
  limits_of t b a m q k le = (limits_rise l start leg t b a q k ((l.task t).saves - m) m (omega arith), leg.within t q b a k)

  opens_source : (t : ℕ) → t < l.before → (l.task t).role ≡ Source → IsReady (l.task t) (start t)
  opens_source t b a =
      let some = ok.some_windows in
      let o : IsSourceOpening (l.task t) (start t) = subst (λ r. IsOpening p r (l.task t) (start t)) a (opens t (omega arith)) in
      record {
        pending = ap (λ s. s.pending) o.is;
        opened = ap (λ s. s.opened) o.is;
        next = ap (λ s. s.next) o.is;
        length_marks = ap (λ s. length s.inputs.marks) o.is ∙ o.length_marks;
        length_offsets = ap (λ s. length s.offsets) o.is ∙ o.length_offsets;
        marks = λ q k. ap (λ s. get_or s.inputs.marks q (pos 0)) o.is ∙ o.marked q (pos 0) k ∙ ap (λ s. (l.task t).watermark q (get_or s.offsets q 0)) (sym o.is);
        within = λ q k. let f = leg.from t q b a k in let m = limits_of t b a 0 q k (omega arith) in omega (arith, f, m);
        cursor = reaches_first l t (start t).cursor ok b (ap (λ s. s.cursor) o.is);
      }

  opens_chain : (t : ℕ) → t < l.before → (l.task t).role ≡ Chain → IsFresh (l.task t) (start t)
  opens_chain t b a =
      let some = ok.some_windows in
      let o : start t ≡ opening (l.task t).inputs [] (replicate (l.task t).inputs lowest) empty = subst (λ r. IsOpening p r (l.task t) (start t)) a (opens t (omega arith)) in
      record {
        pending = ap (λ s. s.pending) o;
        marks = ap (λ s. s.inputs.marks) o;
        some = ok.some_input t (λ u. (let c = a in cc)) (omega arith);
        cursor = reaches_first l t (start t).cursor ok b (ap (λ s. s.cursor) o);
      }

  opens_window : (u : ℕ) → l.before ≤ u → u < l.sink → IsRestored p (l.task u) (start u)
  opens_window u b m =
      let a = ok.roles_window u b m in
      let o : (windows : Windows) × (start u ≡ opening (l.task u).inputs [] (replicate (l.task u).inputs lowest) windows) × ((q : Pane) → is_due p.window lowest q.start ≡ true → get windows q ≡ None) = subst (λ r. IsOpening p r (l.task u) (start u)) a (opens u (omega arith)) in
      record {
        pending = ap (λ s. s.pending) o.1;
        marks = ap (λ s. s.inputs.marks) o.1;
        some = ok.some_input u (λ c. (let r = a in cc)) (omega arith);
        windows = λ q d. ap (λ s. get s.windows q) o.1 ∙ o.2 q d;
      }

  pub opened : IsOpened p l start
  opened = record { ready = opens_source; orderly = orderly; limits = limits_of; chain = opens_chain; window = opens_window }

pub begun : (p : PlanData) (l : AbstractLayout) (start : ℕ → State) (w : ℤ) → IsLayout l → AreOrderlySources p l → IsOneLeg l start → IsStart p l start w → IsBegun p l start w
begun p l start w ok orderly leg st = record { opened = opened p l start ok orderly leg st.opens; merged = st.merged; windows = st.windows }
