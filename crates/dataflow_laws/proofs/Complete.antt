-- A complete history of a leg is a drained flow.
use Rattle.std.proofs.Common.{◌≡◌, ℕ, ◌<◌, ◌≤◌, List, [], ◌∷◌, ◌++◌, true, get_or, refl, sym, ap, subst, ◌∙◌, inl, inr, arith, append_assoc}
use Rattle.std.proofs.lemmas.Bool.{cases_Bool, false≢true}
use Rattle.plan_model.specs.PlanData.{PlanData}
use Rattle.dataflow_model.specs.declared.message.Message.{Message}
use Rattle.dataflow_model.specs.declared.role.Role.{Role}
use Rattle.dataflow_model.specs.declared.role.Role.TheVariants.{Source}
use Rattle.dataflow_model.specs.declared.ending.Ending.TheVariants.{Asked}
use Rattle.dataflow_model.specs.AbstractTask.{AbstractTask}
use Rattle.dataflow_model.specs.AbstractLayout.{AbstractLayout, IsLayout}
use Rattle.dataflow_model.specs.State.{State}
use Rattle.dataflow_model.specs.Opening.{IsOpening}
use Rattle.dataflow_model.specs.Start.{AreOpenings}
use Rattle.dataflow_model.specs.OneLeg.{IsOneLeg}
use Rattle.dataflow_model.specs.Runs.{taken, sent, only, onto, given}
use Rattle.dataflow_model.specs.History.{History, IsComplete}
use Rattle.dataflow_model.specs.Flow.{Flow, IsDrained}
use Rattle.dataflow_laws.proofs.Openings.{IsOpenedAs, opened_as}
use Rattle.dataflow_laws.proofs.Aligning.{last_of}
use Rattle.dataflow_laws.proofs.Ends.{is_final, ended, Closed, HasEnds, IsIdle, has_ends}
use Rattle.dataflow_model.proofs.Facts.{onto_ahead, not_a_source}

-- every history is a flow
abbrev pub flow_of : {p : PlanData} {l : AbstractLayout} {start : ℕ → State} → History p l start → Flow p l start
flow_of {l = l} h = record {
  steps = h.steps;
  end = h.end;
  run = h.run;
  ahead = λ s t r.
      let a = onto_ahead (only (l.out_at s t) (h.end s).pending) (sent (l.out_at s t) (h.steps s)) in
      (a.0 ++ h.holds s t, a.1 ∙ ap (λ q. a.0 ++ q) (h.rings s t r) ∙ sym (append_assoc a.0 (h.holds s t) (taken (l.in_at s t) (h.steps t))));
}

pub ended_append : (n : ℕ) (xs ys : List Message) → ended n ys ≡ true → ended n (xs ++ ys) ≡ true
ended_append n [] ys e = e
ended_append n (x ∷ xs) ys e = elim (cases_Bool (is_final n x)) [ inl d ↦ rw d refl | inr d ↦ rw d (ended_append n xs ys e) ]

-- what was taken is all, if it has the one last message
all_taken : (n : ℕ) (log left took : List Message) → Closed n log → log ≡ left ++ took → ended n took ≡ true → left ≡ []
all_taken n log [] took c e t = refl
all_taken n log (x ∷ left) took c e t =
    let d : c.last ∷ c.before ≡ x ∷ (left ++ took) = sym c.is ∙ e in
    let d' : c.before ≡ left ++ took = cc in
    absurd (false≢true (sym c.first ∙ ap (ended n) d' ∙ ended_append n left took t))

pub idle_of : (p : PlanData) (role : Role) (k : AbstractTask) (s : State) → IsOpening p role k s → IsIdle k s
idle_of p role k s o =
    let a : IsOpenedAs k s = opened_as p role k s o in
    record { over = ap (λ s. s.over) a.is; pending = ap (λ s. s.pending) a.is; shut = ap (λ s. s.inputs.shut) a.is }

-- the tasks at the ends of a ring
pub ring_bound : (l : AbstractLayout) → IsLayout l → (s t : ℕ) → l.ring s t ≡ true → (s ≤ l.sink) × (t ≤ l.sink)
ring_bound l ok s t r = let o = ok.ring_out s t r in let x = (ok.output s (l.out_at s t) o.0).2 in let f = ok.forward s t r in let e = o.1 in (omega arith, omega arith)

module _ (p : PlanData) (l : AbstractLayout) (ok : IsLayout l) (start : ℕ → State) (leg : IsOneLeg l start) (opens : AreOpenings p l start) (h : History p l start) (complete : IsComplete h) where
  ends_of : (t : ℕ) → t ≤ l.sink → HasEnds (l.task t) (h.steps t) (h.end t)
  ends_of t m = has_ends p (l.task t) (start t) (idle_of p (l.task t).role (l.task t) (start t) (opens t m)) (h.run t)

  same_number : (s t : ℕ) → s ≤ l.sink → t ≤ l.sink → last_of (l.task t) ≡ last_of (l.task s)
  same_number s t ms mt = let a = leg.alike s ms in let b = leg.alike t mt in let a0 = a.0 in let a1 = a.1 in let b0 = b.0 in let b1 = b.1 in omega arith

  pub drained : IsDrained (flow_of h)
  drained = record {
    rings = λ s t r.
        let bd = ring_bound l ok s t r in
        let es = ends_of s bd.0 in
        let et = ends_of t bd.1 in
        let o = ok.ring_out s t r in
        let i = ok.ring_in s t r in
        let ns = not_a_source (l.task t).role (λ a. false≢true (sym (ok.no_ring_in s t a) ∙ r)) in
        let c = es.closed (complete s bd.0).0 (l.out_at s t) o.0 in
        let same : given (l.out_at s t) (h.steps s) (h.end s) ≡ sent (l.out_at s t) (h.steps s) = ap (λ p. onto (only (l.out_at s t) p) (sent (l.out_at s t) (h.steps s))) (complete s bd.0).1 in
        let e = same ∙ h.rings s t r in
        let took = subst (λ n. ended n (taken (l.in_at s t) (h.steps t)) ≡ true) (same_number s t bd.0 bd.1) (et.over_taken ns (complete t bd.1).0 (l.in_at s t) i.0) in
        let z = all_taken (last_of (l.task s)) (given (l.out_at s t) (h.steps s) (h.end s)) (h.holds s t) (taken (l.in_at s t) (h.steps t)) c e took in
        e ∙ ap (λ x. x ++ taken (l.in_at s t) (h.steps t)) z;
    opened = λ t m a. let tb : t ≤ l.sink = (let w = ok.some_windows in omega arith) in ((ends_of t tb).source a (complete t tb).0).0;
  }

  -- where no stop is asked for, all is read that the leg is to read
  pub at_limits : (t q : ℕ) → t < l.before → (l.task t).role ≡ Source → q < (l.task t).inputs → ((l.task t).ending ≡ Asked → ⊥) → get_or (h.end t).offsets q 0 ≡ (l.task t).limit (l.task t).saves q
  at_limits t q m a k ask = let tb : t ≤ l.sink = (let w = ok.some_windows in omega arith) in ((ends_of t tb).source a (complete t tb).0).1 ask q k
