-- In a complete history each task has passed the barriers of all savepoints on the way.
use Rattle.std.proofs.Common.{◌≡◌, ℕ, zero, suc, ◌<◌, ◌≤◌, [], ◌++◌, true, ap, subst, ◌∙◌, inl, inr, arith}
use Rattle.std.proofs.lemmas.Bool.{cases_Bool, cases_lt}
use Rattle.plan_model.specs.PlanData.{PlanData}
use Rattle.dataflow_model.specs.Role.{is_source}
use Rattle.dataflow_model.specs.AbstractLayout.{AbstractLayout, IsLayout}
use Rattle.dataflow_model.specs.State.{State}
use Rattle.dataflow_model.specs.Start.{IsLegStart}
use Rattle.dataflow_model.specs.Runs.{taken, sent, only, onto}
use Rattle.dataflow_model.specs.History.{History, IsComplete}
use Rattle.dataflow_model.proofs.Facts.{no_source, source_yes}
use Rattle.seal_laws.specs.Ended.{EndedHavePassed}
use Rattle.seal_laws.proofs.Logs.{barriers_in, IsEndLast, IsGiven, nothing_behind}
use Rattle.seal_laws.proofs.Tasks.{HasPassed, has_passed, IsAll, all_ended}

module _ (p : PlanData) (l : AbstractLayout) (start : ℕ → State) (ok : IsLayout l) (leg : IsLegStart p l start) (h : History p l start) (complete : IsComplete h) where
  at : (t : ℕ) → t ≤ l.sink → HasPassed (l.task t) (h.steps t) (h.end t)
  at t m = has_passed p (l.task t) (start t) (h.steps t) (h.end t) (leg.opens t m) (h.run t)

  -- of a ring whose receiver has got an end all barriers were taken that its sender has passed
  all_taken : (s t : ℕ) → l.ring s t ≡ true → s ≤ l.sink → (n : ℕ) → IsAll n (taken (l.in_at s t) (h.steps t)) → (h.end s).next ≤ n
  all_taken s t r sl n all =
      let j = l.out_at s t in
      let took = taken (l.in_at s t) (h.steps t) in
      let put : IsGiven (h.end s).next (h.end s).over (sent j (h.steps s)) = subst (IsGiven (h.end s).next (h.end s).over) (ap (λ ps. onto (only j ps) (sent j (h.steps s))) (complete s sl).1) ((at s sl).outputs j (ok.ring_out s t r).0) in
      let none_left : h.holds s t ≡ [] = nothing_behind (h.holds s t) took (subst IsEndLast (h.rings s t r) put.last) all.end in
      let same : barriers_in (sent j (h.steps s)) ≡ barriers_in took = ap barriers_in (h.rings s t r ∙ ap (λ x. x ++ took) none_left) in
      let gave = put.barriers in
      let few = all.few in
      omega (arith, same, gave, few)

  -- senders stand before their receivers
  passed_below : (n t : ℕ) → t < n → t ≤ l.sink → (l.task t).saves ≤ (h.end t).next
  passed_below zero t b m = absurd (omega (arith, b))
  passed_below (suc n) t b m = elim (cases_Bool (is_source (l.task t).role)) [
    | inl a ↦ ((at t m).source (source_yes (l.task t).role a) (complete t m).0).1
    | inr ns ↦ elim (cases_lt (h.end t).next (l.task t).saves) [
      | inr there ↦ there
      | inl few ↦ absurd (
          let other = no_source (l.task t) ns in
          let ring = ok.input t 0 other (ok.some_input t other m) in
          let s = l.from t 0 in
          let before = ok.forward s t ring.0 in
          let sl : s ≤ l.sink = omega (arith, before, m) in
          let all = all_ended (l.task t) (h.steps t) (h.end t) (at t m) ns (complete t m).0 few (l.in_at s t) (ok.ring_in s t ring.0).0 in
          let sent = all_taken s t ring.0 sl (h.end t).next all in
          let there = passed_below n s (omega (arith, before, b)) sl in
          let one = (leg.leg.alike s sl).1 in
          let two = (leg.leg.alike t m).1 in
          omega (arith, sent, there, few, one, two))
    ]
  ]

pub ended_have_passed : EndedHavePassed
ended_have_passed p l start ok leg h complete t m = passed_below p l start ok leg h complete (suc t) t (omega arith) m
