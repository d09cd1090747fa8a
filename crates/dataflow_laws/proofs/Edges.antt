-- Rings keep watermarks and records in their order.
use Rattle.std.proofs.Common.{◌≡◌, ℕ, zero, suc, ◌<◌, List, [], ◌∷◌, slice_index_or, true, refl, sym, ap, ◌∙◌, inl, inr, arith, ℤ, pos, ◌<ℤ◌, int_lt}
use Rattle.std.proofs.lemmas.Bool.{cases_Bool, cases_lt}
use Rattle.std.proofs.lemmas.Int.{ints}
use Rattle.std.proofs.lemmas.List.{get_or_default}
use Rattle.std.specs.List.{All}
use Rattle.plain_data.specs.Record.{Record, at}
use Rattle.plan_model.specs.PlanData.{PlanData}
use Rattle.dataflow_model.specs.declared.message.Message.{Message}
use Rattle.dataflow_model.specs.Message.{records_of}
use Rattle.dataflow_model.specs.AbstractLayout.{AbstractLayout, IsLayout}
use Rattle.dataflow_model.specs.State.{State}
use Rattle.dataflow_model.specs.Runs.{taken, given}
use Rattle.dataflow_model.specs.Flow.{Flow}
use Rattle.dataflow_model.specs.History.{History}
use Rattle.dataflow_laws.specs.Edges.{mark_of, IsInOrder, told_watermark, KeepsWatermark, EdgesKeepWatermarks, WindowsHaveTheWatermark}
use Rattle.dataflow_laws.proofs.Streams.{weigh, late, IsOrderly}
use Rattle.dataflow_laws.proofs.Logs.{weigh_of}
use Rattle.dataflow_laws.proofs.Relay.{least_highest}
use Rattle.dataflow_laws.proofs.Graph.{IsOpened, read_at, relays_at, windows_at, kind, not_source, sender_before, said_each, said_source, said_chain, taken_below, orderly_given, orderly_taken, window_below}
use Rattle.dataflow_laws.proofs.Legs.{low_is}
use Rattle.dataflow_laws.proofs.Complete.{flow_of, drained}
use Rattle.dataflow_laws.proofs.Openings.{opened, begun}

-- records that weigh nothing by lateness are not late
none_late : (c : ℕ) (w : ℤ) (rs : List Record) → weigh (late c w) rs ≡ 0 → All (λ r. w <ℤ at c r) rs
none_late c w [] z n d l = absurd (omega arith)
none_late c w (r ∷ rs) z zero d l = elim (cases_Bool (int_lt w (at c r))) [
  | inl e ↦ grind (arith, ints, e)
  | inr e ↦ absurd (let h : late c w r ≡ 1 = rw e refl in omega (arith, z, h))
]
none_late c w (r ∷ rs) z (suc n) d l = none_late c w rs (omega (arith, z)) n d (omega arith)

in_order : (c : ℕ) (log : List Message) → IsOrderly c log → IsInOrder c log
in_order c [] o = o
in_order c (m ∷ log) o = (none_late c (mark_of log) (records_of m) (weigh_of (late c (mark_of log)) m ∙ o.0), in_order c log o.1)

module _ (p : PlanData) (l : AbstractLayout) (ok : IsLayout l) (start : ℕ → State) (op : IsOpened p l start) (h : History p l start) where
  abbrev f : Flow p l start
  f = flow_of h

  -- what a task before the windows has told
  told_by : (s j : ℕ) → s < l.before → j < (l.task s).outputs → mark_of (given j (h.steps s) (h.end s)) ≡ told_watermark (l.task s).role (h.end s)
  told_by s j b k = said_each p l ok start op f s b j k ∙ elim (kind p l ok start op f s b) [
    | inl a ↦ said_source p l ok start op f s b a ∙ ap (λ r. told_watermark r (h.end s)) (sym a)
    | inr a ↦ said_chain p l ok start op f s b a ∙ ap (λ r. told_watermark r (h.end s)) (sym a)
  ]

  heard_by : (s t : ℕ) → t < l.sink → l.ring s t ≡ true → (d : ℤ) → slice_index_or (h.end t).inputs.marks (l.in_at s t) d ≡ mark_of (taken (l.in_at s t) (h.steps t))
  heard_by s t m r d =
      let i = ok.ring_in s t r in
      elim (cases_lt t l.before) [
        | inl b ↦
            (let x = relays_at p l ok start op f t b (ok.roles_before t b (not_source p l ok start op f s t r)) in
            get_or_default (h.end t).inputs.marks (l.in_at s t) d (pos 0) (omega (arith, x.length_marks, i.0)) ∙ x.marks (l.in_at s t) i.0)
        | inr b ↦
            (let x = windows_at p l ok start op f t b m in
            get_or_default (h.end t).inputs.marks (l.in_at s t) d (pos 0) (omega (arith, x.length_marks, i.0)) ∙ x.marks (l.in_at s t) i.0)
      ]

  keeps : (s t : ℕ) → t < l.sink → l.ring s t ≡ true → KeepsWatermark p l h s t
  keeps s t m r =
      let b = sender_before p l ok start op f s t m r in
      let o = ok.ring_out s t r in
      let i = ok.ring_in s t r in
      let told = told_by s (l.out_at s t) b o.0 in
      record {
        told = told;
        heard = heard_by s t m r;
        behind = (let x = taken_below p l ok start op f s t b r in let y = said_each p l ok start op f s b (l.out_at s t) o.0 in omega (arith, ints, x, y, told));
        sent_in_order = in_order p.window.time (given (l.out_at s t) (h.steps s) (h.end s)) (orderly_given p l ok start op f s b (l.out_at s t) o.0);
        taken_in_order = in_order p.window.time (taken (l.in_at s t) (h.steps t)) (orderly_taken p l ok start op f t m (not_source p l ok start op f s t r) (l.in_at s t) i.0);
      }

pub edges_keep_watermarks : EdgesKeepWatermarks
edges_keep_watermarks p l start ok orderly leg opens h =
    let op = opened p l start ok orderly leg opens in (
      λ t q d b a k. (let r = read_at p l ok start op (flow_of h) t b a in get_or_default (h.end t).inputs.marks q d (pos 0) (omega (arith, r.length_marks, k)) ∙ r.marks q k),
      keeps p l ok start op h,
    )

pub windows_have_the_watermark : WindowsHaveTheWatermark
windows_have_the_watermark p l start w v ok orderly leg st h mg u b m =
    let bg = begun p l start w ok orderly leg st in (
      mg.greatest _ (least_highest (h.end u).inputs.marks) (λ t q tb a k. window_below p l ok start bg.opened (flow_of h) u b m t q tb a k),
      λ complete. low_is p l ok start w bg (flow_of h) (drained p l ok start leg st.opens h complete) v mg u b m,
    )
