-- Where rings stand.
use Rattle.std.proofs.Common.{◌≡◌, ℕ, suc, ◌+◌, ◌*◌, ◌<◌, ◌≤◌, List, [], ◌∷◌, ◌++◌, map, length, get_or, set, refl, sym, ap, subst, ◌∙◌, inl, inr, arith}
use Rattle.std.specs.Prelude.{nat_lt, if◌then◌else◌, ◌==◌, Option, Some, None, MatchOption, option_to_list}
use Rattle.std.specs.VecDeque.{deque_capacity}
use Rattle.std.specs.declared.alloc.Global.{Global}
use Rattle.std.specs.declared.collections.VecDeque.{VecDeque}
use Rattle.dataflow_model.specs.declared.message.Message.{Message}
use Rattle.std.proofs.Math.Nat.{suc-mul, mul-le-mul_right}
use Rattle.std.proofs.lemmas.List.{get_or-set_same, get_or-set_other, get_or-map, map-set, length-map, get_or_past, set-get_or}
use Rattle.std.proofs.lemmas.Bool.{cases_eq, cases_lt, cases_Bool, eq-eqb, ne_eqb, lt-ltb, ltb-true, false≢true}
use Rattle.core_steps.specs.Queues.{Queue, queue_of, no_queue, with_message}
use Rattle.core_steps.specs.Rings.{RingsData, queue_at, ChangesQueue, PopsMessage}

before : (n s t x y : ℕ) → t < n → s < x → s * n + t ≡ x * n + y → ⊥
before n s t x y l less same =
    let wide : suc s * n ≤ x * n = mul-le-mul_right n less in
    let row = suc-mul s n in
    omega (arith, l, same, wide, row)

-- two rings that stand at one place are one
same_place : (n s t x y : ℕ) → t < n → y < n → s * n + t ≡ x * n + y → s ≡ x
same_place n s t x y l k same = elim (cases_lt s x) [
  | inl less ↦ absurd (before n s t x y l less same)
  | inr more ↦ elim (cases_lt x s) [
    | inl less ↦ absurd (before n x y s t k less (sym same))
    | inr more' ↦ omega (arith, more, more')
  ]
]

-- one ring has changed
pub changed : (r : RingsData) (s t : ℕ) (q : Queue) → t < r.tasks → s * r.tasks + t < length r.queues → ChangesQueue s t q r (record r { queues = set r.queues (s * r.tasks + t) q })
changed r s t q l k = record { tasks = refl; queues = queues }
  where
    queues : (x y : ℕ) → queue_at (record r { queues = set r.queues (s * r.tasks + t) q }) x y ≡ (if x == s then (if y == t then q else queue_at r x y) else queue_at r x y)
    queues x y = elim (cases_Bool (nat_lt y r.tasks)) [
      | inr e ↦ (
          let c = ne_eqb y t (λ f. false≢true (sym e ∙ ap (λ v. nat_lt v r.tasks) f ∙ lt-ltb t r.tasks l)) in
          elim (cases_Bool (x == s)) [ inl b ↦ rw (e, b, c) refl | inr b ↦ rw (e, b) refl ])
      | inl e ↦ elim (cases_eq x s) [
        | inr ne ↦ (let b = ne_eqb x s ne in rw (e, b) (get_or-set_other r.queues (s * r.tasks + t) (x * r.tasks + y) q no_queue (λ f. ne (same_place r.tasks x y s t (ltb-true y r.tasks e) l f))))
        | inl f ↦ elim (cases_eq y t) [
          | inr ne ↦ (
              let b = eq-eqb x s f in
              let c = ne_eqb y t ne in
              let apart : x * r.tasks + y ≡ s * r.tasks + t → ⊥ = λ g. (let row : x * r.tasks ≡ s * r.tasks = ap (λ v. v * r.tasks) f in ne (omega (arith, g, row))) in
              rw (e, b, c) (get_or-set_other r.queues (s * r.tasks + t) (x * r.tasks + y) q no_queue apart))
          | inl g ↦ (
              let b = eq-eqb x s f in
              let c = eq-eqb y t g in
              let there : x * r.tasks + y ≡ s * r.tasks + t = (λ i. f i * r.tasks + g i) in
              rw (e, b, c) (ap (λ v. get_or (set r.queues (s * r.tasks + t) q) v no_queue) there ∙ get_or-set_same r.queues (s * r.tasks + t) q no_queue k))
        ]
      ]
    ]

-- the ring that stands at a place
queue_there : (queues : List (VecDeque Message Global)) (n s t : ℕ) (q : VecDeque Message Global) → t < n → s * n + t < length queues → q ≡ get_or queues (s * n + t) q → queue_at (record { tasks = n; queues = map queue_of queues }) s t ≡ queue_of q
queue_there queues n s t q l k is = let e = lt-ltb t n l in rw e (get_or-map queue_of queues (s * n + t) q no_queue k ∙ ap queue_of (sym is))

no_queue_past : (queues : List (VecDeque Message Global)) (n s t place : ℕ) → place ≡ s * n + t → length queues ≤ place → queue_at (record { tasks = n; queues = map queue_of queues }) s t ≡ no_queue
no_queue_past queues n s t place at past = elim (cases_Bool (nat_lt t n)) [
  | inr e ↦ rw e refl
  | inl e ↦ (let few = length-map queues queue_of in rw e (get_or_past (map queue_of queues) (s * n + t) no_queue (omega (arith, at, past, few))))
]

-- no ring stands past the last place
pub no_ring : (queues : List (VecDeque Message Global)) (n s t place : ℕ) → place ≡ s * n + t → length queues ≤ place → (queue_at (record { tasks = n; queues = map queue_of queues }) s t).messages ≡ []
no_ring queues n s t place at past = ap (λ (q : Queue). q.messages) (no_queue_past queues n s t place at past)

-- one that has room stands there
pub has_place : (queues : List (VecDeque Message Global)) (n s t place : ℕ) → place ≡ s * n + t → let r : RingsData = record { tasks = n; queues = map queue_of queues } in length (queue_at r s t).messages < (queue_at r s t).room → place < length queues
has_place queues n s t place at room = elim (cases_lt place (length queues)) [
  | inl l ↦ l
  | inr past ↦ (let none : 0 < 0 = subst (λ (q : Queue). length q.messages < q.room) (no_queue_past queues n s t place at past) room in absurd (omega (arith, none)))
]

-- the queue at its place has become q'
pub changed_there : (queues : List (VecDeque Message Global)) (n s t place : ℕ) (q' : VecDeque Message Global) → t < n → place ≡ s * n + t → place < length queues
    → ChangesQueue s t (queue_of q') (record { tasks = n; queues = map queue_of queues }) (record { tasks = n; queues = map queue_of (set queues place q') })
changed_there queues n s t place q' l at k =
    let old : RingsData = record { tasks = n; queues = map queue_of queues } in
    let long = length-map queues queue_of in
    let same : set (map queue_of queues) (s * n + t) (queue_of q') ≡ map queue_of (set queues place q') = ap (λ v. set (map queue_of queues) v (queue_of q')) (sym at) ∙ sym (map-set queue_of queues place q') in
    subst (λ v. ChangesQueue s t (queue_of q') old (record { tasks = n; queues = v })) same (changed old s t (queue_of q') l (omega (arith, at, k, long)))

pub put_there : (queues : List (VecDeque Message Global)) (n s t place : ℕ) (q q' : VecDeque Message Global) (m : Message) → t < n → place ≡ s * n + t → place < length queues → q ≡ get_or queues place q → q'.items ≡ q.items ++ m ∷ [] → deque_capacity q' ≡ deque_capacity q
    → let old : RingsData = record { tasks = n; queues = map queue_of queues } in ChangesQueue s t (with_message (queue_at old s t) m) old (record { tasks = n; queues = map queue_of (set queues place q') })
put_there queues n s t place q q' m l at k is items room =
    let old : RingsData = record { tasks = n; queues = map queue_of queues } in
    let there = queue_there queues n s t q l (subst (λ v. v < length queues) at k) (subst (λ v. q ≡ get_or queues v q) at is) in
    let made : queue_of q' ≡ with_message (queue_at old s t) m = (λ i. record { messages = items i; room = room i }) ∙ ap (λ v. with_message v m) (sym there) in
    subst (λ v. ChangesQueue s t v old (record { tasks = n; queues = map queue_of (set queues place q') })) made (changed_there queues n s t place q' l at k)

pub pop_there : (queues : List (VecDeque Message Global)) (n s t place : ℕ) (q q' : VecDeque Message Global) (r : Option Message) → t < n → place ≡ s * n + t → place < length queues → q ≡ get_or queues place q → q.items ≡ option_to_list r ++ q'.items → (r ≡ None → q.items ≡ []) → deque_capacity q' ≡ deque_capacity q
    → let old : RingsData = record { tasks = n; queues = map queue_of queues } in
    let new : RingsData = record { tasks = n; queues = map queue_of (set queues place q') } in
    MatchOption r (((queue_at old s t).messages ≡ []) × (new ≡ old)) (λ m. PopsMessage s t m old new)
pop_there queues n s t place q q' None l at k is items none room =
    let there = queue_there queues n s t q l (subst (λ v. v < length queues) at k) (subst (λ v. q ≡ get_or queues v q) at is) in
    let same : queue_of q' ≡ queue_of q = (λ i. record { messages = sym items i; room = room i }) in
    let kept : map queue_of (set queues place q') ≡ map queue_of queues = map-set queue_of queues place q' ∙ ap (set (map queue_of queues) place) same ∙ sym (map-set queue_of queues place q) ∙ ap (map queue_of) (ap (set queues place) is ∙ set-get_or queues place q) in
    (ap (λ (v : Queue). v.messages) there ∙ none refl, (λ i. record { tasks = n; queues = kept i }))
pop_there queues n s t place q q' (Some m) l at k is items none room =
    let old : RingsData = record { tasks = n; queues = map queue_of queues } in
    let there = queue_there queues n s t q l (subst (λ v. v < length queues) at k) (subst (λ v. q ≡ get_or queues v q) at is) in
    let made : queue_of q' ≡ record (queue_at old s t) { messages = q'.items } = (λ i. record { messages = q'.items; room = room i }) ∙ ap (λ (v : Queue). record v { messages = q'.items }) (sym there) in
    record {
      rest = q'.items;
      first = ap (λ (v : Queue). v.messages) there ∙ items;
      changes = subst (λ v. ChangesQueue s t v old (record { tasks = n; queues = map queue_of (set queues place q') })) made (changed_there queues n s t place q' l at k);
    }
