-- The rings of a layout, made place by place.
use Rattle.std.proofs.Common.{◌≡◌, ℕ, zero, suc, ◌+◌, ◌*◌, ◌/◌, ◌%◌, ◌<◌, ◌≤◌, Bool, cond, List, [], ◌∷◌, ◌++◌, map, length, get_or, refl, sym, ap, subst, ◌∙◌, inl, inr, arith}
use Rattle.std.specs.Prelude.{nat_lt, slice_index}
use Rattle.std.specs.List.{Contains}
use Rattle.std.specs.declared.alloc.Global.{Global}
use Rattle.std.specs.declared.collections.VecDeque.{VecDeque}
use Rattle.std.proofs.Math.Nat.{suc-mul, mul-le-mul_right}
use Rattle.std.proofs.lemmas.List.{get_or_append_left, get_or_push, get_or-map, get_or_past, length-map, length-append}
use Rattle.std.proofs.lemmas.List.Elements.{Contains-get_or}
use Rattle.std.proofs.lemmas.Nat.{mod-mul-add, div-mul-add}
use Rattle.std.proofs.lemmas.Bool.{cases_lt, cases_Bool, lt-ltb}
use Rattle.dataflow_model.specs.declared.message.Message.{Message}
use Rattle.layout_rules.specs.declared.stage.Stage.{Stage}
use Rattle.layout_rules.specs.Below.{filter_below}
use Rattle.layout_rules.specs.Stages.{task_count, is_ring, outputs_of}
use Rattle.core_steps.specs.Queues.{Queue, queue_of, no_queue, IsNewQueue}
use Rattle.core_steps.specs.Rings.{RingsData, queue_at, AreNewRings}

those_below : (test : ℕ → Bool) (n i : ℕ) → i < length (filter_below test n) → get_or (filter_below test n) i 0 < n
those_below test zero i l = absurd (omega arith)
those_below test (suc n) i l = elim (cases_lt i (length (filter_below test n))) [
  | inl k ↦ (
      let q = get_or_append_left (filter_below test n) (cond (test n) (n ∷ []) []) 0 i k in
      let r = those_below test n i k in
      rw q (omega (arith, r)))
  | inr k ↦ elim (cases_Bool (test n)) [
    | inl e ↦ (
        let z : i < length (filter_below test n ++ n ∷ []) = (let y : i < length (filter_below test n ++ cond (test n) (n ∷ []) []) = l in rw e at y) in
        let long = length-append (filter_below test n) (n ∷ []) in
        let at : length (filter_below test n) ≡ i = omega (arith, z, long, k) in
        let q : get_or (filter_below test n ++ cond (test n) (n ∷ []) []) i 0 ≡ n = rw e (get_or_push (filter_below test n) n 0 i at) in
        rw q (omega arith))
    | inr e ↦ absurd (let z : i < length (filter_below test n ++ []) = (let y : i < length (filter_below test n ++ cond (test n) (n ∷ []) []) = l in rw e at y) in let long = length-append (filter_below test n) [] in omega (arith, z, long, k))
  ]
]

module _ (stages : List Stage) (capacity : ℕ) (queues : List (VecDeque Message Global)) (n : ℕ) (count : n ≡ task_count stages) (long : length queues ≡ n * n)
    (all : (k : ℕ) (d : VecDeque Message Global) → k < n * n → IsNewQueue stages capacity (k / n) (k % n) (queue_of (get_or queues k d))) where
  abbrev made : RingsData
  made = record { tasks = n; queues = map queue_of queues }

  empty_at : (k : ℕ) → (get_or (map queue_of queues) k no_queue).messages ≡ []
  empty_at k = elim (cases_lt k (n * n)) [
    | inl l ↦ elim queues as (λ qs. (queues ≡ qs) → (get_or (map queue_of queues) k no_queue).messages ≡ []) [
      | [] ↦ λ e. (let none = ap (λ (qs : List (VecDeque Message Global)). length qs) e in absurd (omega (arith, l, none, long)))
      | q ∷ qs ↦ λ e. ap (λ (v : Queue). v.messages) (get_or-map queue_of queues k q no_queue (omega (arith, l, long))) ∙ (all k q l).messages
    ] refl
    | inr past ↦ (let few = length-map queues queue_of in ap (λ (v : Queue). v.messages) (get_or_past (map queue_of queues) k no_queue (omega (arith, past, few, long))))
  ]

  messages : (s t : ℕ) → (queue_at made s t).messages ≡ []
  messages s t = elim (cases_Bool (nat_lt t n)) [
    | inr e ↦ rw e refl
    | inl e ↦ rw e (empty_at (s * n + t))
  ]

  room : (s j : ℕ) → s < task_count stages → j < length (outputs_of stages s) → capacity ≤ (queue_at made s (slice_index (outputs_of stages s) j)).room
  room s j sl jl =
      let t = slice_index (outputs_of stages s) j in
      let tl : t < n = subst (λ v. t < v) (sym count) (those_below (is_ring stages s) (task_count stages) j jl) in
      let e = lt-ltb t n tl in
      let wide : suc s * n ≤ n * n = mul-le-mul_right n (omega (arith, sl, count)) in
      let row = suc-mul s n in
      let place : s * n + t < n * n = omega (arith, tl, wide, row) in
      elim queues as (λ qs. (queues ≡ qs) → capacity ≤ (queue_at made s t).room) [
        | [] ↦ λ is. (let none = ap (λ (qs : List (VecDeque Message Global)). length qs) is in absurd (omega (arith, place, none, long)))
        | q ∷ qs ↦ λ is. (
            let new = all (s * n + t) q place in
            let there : Contains (outputs_of stages s) t = Contains-get_or (outputs_of stages s) j 0 jl in
            let there' = subst (λ v. Contains (outputs_of stages v) t) (sym (div-mul-add s n t tl)) there in
            let there'' = subst (λ v. Contains (outputs_of stages ((s * n + t) / n)) v) (sym (mod-mul-add s n t tl)) there' in
            let at : get_or (map queue_of queues) (s * n + t) no_queue ≡ queue_of (get_or queues (s * n + t) q) = get_or-map queue_of queues (s * n + t) q no_queue (omega (arith, place, long)) in
            rw e (subst (λ (v : Queue). capacity ≤ v.room) (sym at) (new.room there'')))
      ] refl

  pub new_rings : AreNewRings stages capacity made
  new_rings = record { tasks = count; messages = messages; room = room }
