-- No task takes more records than the input has.
use Rattle.std.proofs.Common.{◌≡◌, ℕ, suc, ◌+◌, ◌<◌, ◌≤◌, List, [], ◌∷◌, ◌++◌, true, false, cond, eqb, length, get_or, refl, sym, ap, ◌∙◌, inl, inr, arith}
use Rattle.std.proofs.lemmas.Bool.{cases_eq, cases_Bool, cases_lt, eq-eqb, ne_eqb, false≢true}
use Rattle.plan_model.specs.PlanData.{PlanData}
use Rattle.dataflow_model.specs.declared.message.Message.{Message}
use Rattle.dataflow_model.specs.declared.role.Role.TheVariants.{Source}
use Rattle.dataflow_model.specs.Message.{records_of}
use Rattle.dataflow_model.specs.Role.{is_source}
use Rattle.dataflow_model.specs.Sums.{total}
use Rattle.dataflow_model.specs.AbstractTask.{AbstractTask}
use Rattle.dataflow_model.specs.AbstractLayout.{AbstractLayout, IsLayout}
use Rattle.dataflow_model.specs.State.{State}
use Rattle.dataflow_model.specs.Steps.{Event, Open, Read, Save, Stop, Close, Take, Put, LocalStep}
use Rattle.dataflow_model.specs.Runs.{Run, taken, sent, only, given}
use Rattle.dataflow_model.specs.Runs.Run.{none, more}
use Rattle.dataflow_model.specs.History.{History}
use Rattle.dataflow_model.proofs.Facts.{total_same, total_add, total_none, total_front, total_at, total_swap, total_le, total_up, total_places, front_and_one, onto_ahead, no_source, source_yes}
use Rattle.dataflow_model.specs.Start.{IsLegStart}
use Rattle.dataflow_laws.specs.Count.{record_count, TakesNoMore}
use Rattle.dataflow_laws.proofs.Needs.{step_needs}
use Rattle.dataflow_laws.proofs.Opened.{fresh, long_offsets}
use Rattle.dataflow_laws.proofs.Reading.{HasLimits, Reading, reading, reading_fresh}
use Rattle.dataflow_laws.proofs.Counting.{count, count_append, below, has_read, Counting, counting}

-- what leaves the tasks below p for the task u is at most what comes into them
flow_le : (n p u : ℕ) (a : ℕ → ℕ → ℕ) (src : ℕ → ℕ) → p ≤ u → u < n → ((s t : ℕ) → t < p → p ≤ s → s < n → a s t ≡ 0) → ((t : ℕ) → t < p → total n (λ v. a t v) ≤ total n (λ s. a s t) + src t) → total p (λ t. a t u) ≤ total p src
flow_le n p u a src l m back kept_by =
    let x = total_le p (λ t. total p (λ v. a t v) + a t u) (λ t. total p (λ s. a s t) + src t) (λ t h.
    let y = front_and_one n p u (λ v. a t v) l m in
    let z = kept_by t h in
    let f = total_front n p (λ s. a s t) (omega arith) (λ k q r. back k t h q r) in
    omega (arith, y, z, f)) in
    let x' = total_add p (λ t. total p (λ v. a t v)) (λ t. a t u) in
    let x'' = total_add p (λ t. total p (λ s. a s t)) src in
    let c = total_swap p p a in
    omega (arith, x, x', x'', c)

not_after_take : (p : PlanData) (k : AbstractTask) (s : State) (e : Event) (s' : State) (i : ℕ) (es : List Event) → k.role ≡ Source → LocalStep p k s e s' → taken i (e ∷ es) ≡ taken i es
not_after_take p k s Open s' i es a st = refl
not_after_take p k s (Read n) s' i es a st = refl
not_after_take p k s Save s' i es a st = refl
not_after_take p k s Stop s' i es a st = refl
not_after_take p k s Close s' i es a st = refl
not_after_take p k s (Take j m) s' i es a st = absurd (no_source k (step_needs p k s (Take j m) s' st).can.taker a)
not_after_take p k s (Put j m) s' i es a st = refl

-- a source takes nothing
pub none_taken : (p : PlanData) (k : AbstractTask) (start : State) (i : ℕ) → k.role ≡ Source → {es : List Event} {s : State} → Run p k start es s → taken i es ≡ []
none_taken p k start i a none = refl
none_taken p k start i a (more {es = es} {s = s} {e = e} {s' = s'} run st) = not_after_take p k s e s' i es a st ∙ none_taken p k start i a run

-- the limits of a layout's sources
pub has_limits : (p : PlanData) (l : AbstractLayout) (start : ℕ → State) → IsLegStart p l start → (t : ℕ) → t < l.before → (l.task t).role ≡ Source → HasLimits (l.task t)
has_limits p l start b t m a = record { source = a; rises = λ n q x y. b.leg.rises t n q m a x y; within = λ q x. b.leg.within t q m a x }

pub reading_starts : (p : PlanData) (l : AbstractLayout) (start : ℕ → State) → IsLayout l → IsLegStart p l start → (t : ℕ) → t < l.before → (l.task t).role ≡ Source → Reading (l.task t) (start t)
reading_starts p l start ok b t m a =
    let o = b.opens t (let w = ok.some_windows in omega (arith, m, w)) in
    let f = fresh p (l.task t).role (l.task t) (start t) o in
    reading_fresh (l.task t) (start t) (has_limits p l start b t m a) (long_offsets p (l.task t) (start t) o a) f.next f.over (λ q x. b.leg.from t q m a x)

pub reading_at : (p : PlanData) (l : AbstractLayout) (start : ℕ → State) → IsLayout l → IsLegStart p l start → (t : ℕ) → t < l.before → (l.task t).role ≡ Source → {es : List Event} {s : State} → Run p (l.task t) (start t) es s → Reading (l.task t) s
reading_at p l start ok b t m a run = reading p (l.task t) (start t) (has_limits p l start b t m a) (reading_starts p l start ok b t m a) run

module _ (p : PlanData) (l : AbstractLayout) (ok : IsLayout l) (start : ℕ → State) (b : IsLegStart p l start) (H : History p l start) where
  counting_at : (t : ℕ) → t ≤ l.sink → Counting (l.task t) (H.steps t) (H.end t)
  counting_at t m = let o = b.opens t m in counting p (l.task t) (start t) (fresh p (l.task t).role (l.task t) (start t) o) (long_offsets p (l.task t) (start t) o) (H.run t)

  -- what a ring was given, and what was taken from it
  a : ℕ → ℕ → ℕ
  a s t = cond (l.ring s t) (count (given (l.out_at s t) (H.steps s) (H.end s))) 0

  abbrev got : ℕ → ℕ → ℕ
  got s t = cond (l.ring s t) (count (taken (l.in_at s t) (H.steps t))) 0

  a_none : (s t : ℕ) → l.ring s t ≡ false → a s t ≡ 0
  unfolding a
  a_none s t e = rw e refl

  a_some : (s t : ℕ) → l.ring s t ≡ true → a s t ≡ count (given (l.out_at s t) (H.steps s) (H.end s))
  unfolding a
  a_some s t e = rw e refl

  no_ring : (s v : ℕ) → v ≤ s → l.ring s v ≡ false
  no_ring s v le = elim (cases_Bool (l.ring s v)) [ inr e ↦ e | inl e ↦ absurd (let f = ok.forward s v e in omega (arith, f, le)) ]

  given_more : (s t : ℕ) → l.ring s t ≡ true → count (taken (l.in_at s t) (H.steps t)) + count (H.holds s t) ≤ count (given (l.out_at s t) (H.steps s) (H.end s))
  given_more s t r =
      let x = onto_ahead (only (l.out_at s t) (H.end s).pending) (sent (l.out_at s t) (H.steps s)) in
      let e = ap count x.1 ∙ count_append x.0 (sent (l.out_at s t) (H.steps s)) in
      let f = ap count (H.rings s t r) ∙ count_append (H.holds s t) (taken (l.in_at s t) (H.steps t)) in
      omega (arith, e, f)

  got_less : (s t : ℕ) → got s t ≤ a s t
  unfolding a
  got_less s t = elim (cases_Bool (l.ring s t)) [ inr e ↦ rw e (omega arith) | inl e ↦ rw e (let g = given_more s t e in omega (arith, g)) ]

  into : (t : ℕ) → ((l.task t).role ≡ Source → ⊥) → t ≤ l.sink → total (suc l.sink) (λ s. got s t) ≡ total (l.task t).inputs (λ i. count (taken i (H.steps t)))
  into t ns le =
      total_places (suc l.sink) (l.task t).inputs (λ s. l.ring s t) (λ s. l.in_at s t) (l.from t) (λ i. count (taken i (H.steps t)))
      (λ i k. let x = ok.input t i ns k in let f = ok.forward (l.from t i) t x.0 in (omega (arith, f, le), x.0, x.1))
      (λ s k e. ok.ring_in s t e)

  out_of : (t : ℕ) → total (suc l.sink) (λ v. a t v) ≡ total (l.task t).outputs (λ j. count (given j (H.steps t) (H.end t)))
  unfolding a
  out_of t =
      total_places (suc l.sink) (l.task t).outputs (l.ring t) (l.out_at t) (l.to t) (λ j. count (given j (H.steps t) (H.end t)))
      (λ j k. let o = ok.output t j k in (let z = o.2 in omega (arith, z), o.0, o.1))
      (λ v k e. ok.ring_out t v e)

  abbrev src : ℕ → ℕ
  src t = cond (is_source (l.task t).role) (total (l.task t).inputs (λ q. total ((l.task t).size q) (λ n. length (records_of ((l.task t).entry q n))))) 0

  read_less : (t : ℕ) → t < l.before → has_read (l.task t) (H.end t) ≤ src t
  read_less t m = elim (cases_Bool (is_source (l.task t).role)) [
    | inr e ↦ rw e (omega arith)
    | inl e ↦
        (let r = reading_at p l start ok b t m (source_yes (l.task t).role e) (H.run t) in
        let c = total_le (l.task t).inputs (λ q. below ((l.task t).entry q) (get_or (H.end t).offsets q 0)) (λ q. total ((l.task t).size q) (λ n. length (records_of ((l.task t).entry q n))))
        (λ q x. total_up (get_or (H.end t).offsets q 0) ((l.task t).size q) (λ n. length (records_of ((l.task t).entry q n))) (r.size q x)) in
        rw e c)
  ]

  -- a source has taken nothing
  source_none : (t : ℕ) → (l.task t).role ≡ Source → total (l.task t).inputs (λ i. count (taken i (H.steps t))) ≡ 0
  source_none t z = total_same (l.task t).inputs (λ i. count (taken i (H.steps t))) (λ i. 0) (λ i x. ap count (none_taken p (l.task t) (start t) i z (H.run t))) ∙ total_none (l.task t).inputs

  taken_less : (t : ℕ) → t ≤ l.sink → total (l.task t).inputs (λ i. count (taken i (H.steps t))) ≤ total (suc l.sink) (λ s. a s t)
  taken_less t m = elim (cases_Bool (is_source (l.task t).role)) [
    | inl e ↦ (let z = source_none t (source_yes (l.task t).role e) in omega (arith, z))
    | inr e ↦
        (let i = into t (no_source (l.task t) e) m in
        let x = total_le (suc l.sink) (λ s. got s t) (λ s. a s t) (λ s k. got_less s t) in
        omega (arith, i, x))
  ]

  local : (t : ℕ) → t < l.before → total (suc l.sink) (λ v. a t v) ≤ total (suc l.sink) (λ s. a s t) + src t
  local t m =
      let w = ok.some_windows in
      let o = out_of t in
      let c = (counting_at t (omega (arith, w, m))).gives in
      let i = taken_less t (omega (arith, w, m)) in
      let r = read_less t m in
      omega (arith, o, c, i, r)

  -- what was given to a task before the sink
  all_given : (t : ℕ) → t < l.sink → total (suc l.sink) (λ s. a s t) ≤ record_count l
  all_given t m = elim (cases_lt t l.before) [
    | inl q ↦
        (let f = flow_le (suc l.sink) t t a src (omega arith) (omega (arith, m)) (λ s v c d e. a_none s v (no_ring s v (omega (arith, c, d)))) (λ v c. local v (omega (arith, c, q))) in
        let g = total_front (suc l.sink) t (λ s. a s t) (omega (arith, m)) (λ k c d. a_none k t (no_ring k t c)) in
        let u = total_up t l.before src (omega (arith, q)) in
        omega (arith, f, g, u))
    | inr q ↦
        (let f = flow_le (suc l.sink) l.before t a src q (omega (arith, m)) (λ s v c d e. a_none s v (no_ring s v (omega (arith, c, d)))) (λ v c. local v c) in
        let g = total_front (suc l.sink) l.before (λ s. a s t) (omega (arith, q, m)) (λ k c d. a_none k t (elim (cases_lt k t) [ inl y ↦ ok.window_only k t c (omega (arith, y, m)) m | inr y ↦ no_ring k t y ])) in
        omega (arith, f, g))
  ]

  -- a message on a ring can be taken too
  pub with_message : (s t : ℕ) (rest : List Message) (m : Message) → t < l.sink → l.ring s t ≡ true → H.holds s t ≡ rest ++ m ∷ [] → (H.end t).taken + length (records_of m) ≤ record_count l
  with_message s t rest m tl r e =
      let ns : (l.task t).role ≡ Source → ⊥ = λ z. false≢true (sym (ok.no_ring_in s t z) ∙ r) in
      let fw = ok.forward s t r in
      let h : length (records_of m) ≤ count (H.holds s t) = let x = ap count e ∙ count_append rest (m ∷ []) in omega (arith, x) in
      let i = into t ns (omega (arith, tl)) in
      let x = total_le (suc l.sink) (λ u. got u t + cond (eqb u s) (length (records_of m)) 0) (λ u. a u t) (λ u k. elim (cases_eq u s) [
        | inr ne ↦ (let d = ne_eqb u s ne in let g = got_less u t in rw d (omega (arith, g)))
        | inl y ↦ (let d = eq-eqb u s y in let v : l.ring u t ≡ true = ap (λ z. l.ring z t) y ∙ r in let g = given_more u t v in let hu = ap (λ z. count (H.holds z t)) y in let q = a_some u t v in rw (d, v) (omega (arith, g, h, hu, q)))
      ]) in
      let c = total_add (suc l.sink) (λ u. got u t) (λ u. cond (eqb u s) (length (records_of m)) 0) in
      let d = total_at (suc l.sink) s (length (records_of m)) (omega (arith, fw, tl)) in
      let g = all_given t tl in
      let o = (counting_at t (omega (arith, tl))).took in
      omega (arith, i, x, c, d, g, o)

  no_more : (t : ℕ) → t < l.sink → (H.end t).taken ≤ record_count l
  no_more t m =
      let o = (counting_at t (omega (arith, m))).took in
      let i = taken_less t (omega (arith, m)) in
      let g = all_given t m in
      omega (arith, o, i, g)

pub takes_no_more : TakesNoMore
takes_no_more p l start ok b h t m = no_more p l ok start b h t m
