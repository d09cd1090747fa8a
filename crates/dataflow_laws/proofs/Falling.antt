-- Each move lowers the world's cost.
use Rattle.std.proofs.Common.{◌≡◌, ℕ, zero, suc, ◌+◌, ◌-◌, ◌*◌, ◌<◌, ◌≤◌, ℤ, List, [], ◌∷◌, ◌++◌, Bool, true, false, cond, map, length, get_or, set, refl, ap, ◌∙◌, ◌⊎◌, inl, inr, arith, length-append, Option, Some, None}
use Rattle.std.specs.List.{filter}
use Rattle.std.proofs.Math.Nat.{mul-le-mul_left}
use Rattle.std.proofs.lemmas.Bool.{eq-eqb, ne_eqb}
use Rattle.std.proofs.lemmas.List.{get_or-set_same, get_or-set_other}
use Rattle.plain_data.specs.Record.{Record}
use Rattle.plain_data.specs.Times.{lowest}
use Rattle.columns.specs.Table.{Table}
use Rattle.plan_model.specs.declared.spec.Row.{Row}
use Rattle.plan_model.specs.PlanData.{PlanData}
use Rattle.input_state.specs.Inputs.{rise, risen, least}
use Rattle.dataflow_model.specs.declared.message.Message.{Message}
use Rattle.dataflow_model.specs.declared.message.Message.TheVariants.{Rows, Fired, Watermark, Barrier, End}
use Rattle.dataflow_model.specs.declared.role.Role.TheVariants.{Source, Window}
use Rattle.dataflow_model.specs.Sums.{total}
use Rattle.dataflow_model.specs.AbstractTask.{AbstractTask}
use Rattle.dataflow_model.specs.AbstractLayout.{AbstractLayout, IsLayout}
use Rattle.dataflow_model.specs.State.{State}
use Rattle.dataflow_model.specs.Routes.{spread, batch, part, route, route_of, to_all, announce, fired}
use Rattle.dataflow_model.specs.Steps.{Event, Open, Read, Save, Stop, Close, Take, Put, LocalStep, CanTake, is_last}
use Rattle.dataflow_model.specs.Steps.LocalStep.{put, opens, reads, saves, stops, closes, chain_rows, chain_mark, window_rows, window_mark, sink_rows, sink_mark, holds, aligns, ends, ends_all, ends_aligned}
use Rattle.dataflow_model.proofs.Facts.{total_same, total_le, total_change, no_source}
use Rattle.dataflow_laws.specs.World.{World, with_task, with_ring, IsInner, Move, IsEnd}
use Rattle.dataflow_laws.specs.World.Move.{inner, takes, puts}
use Rattle.dataflow_model.specs.Start.{IsLegStart}
use Rattle.dataflow_laws.specs.Measure.{cost_upto, cost, pending_cost, own_steps, task_cost, world_cost, Falls}
use Rattle.dataflow_laws.proofs.Needs.{step_needs}
use Rattle.dataflow_laws.proofs.Events.{IsPut}
use Rattle.dataflow_laws.proofs.Worlds.{behind_end}
use Rattle.dataflow_laws.proofs.Opened.{fresh}
use Rattle.dataflow_laws.proofs.Reading.{HasLimits, limit_up, Reading}
use Rattle.dataflow_laws.proofs.Counts.{has_limits, reading_at}
use Rattle.dataflow_laws.proofs.Aligning.{ins, not_over}
use Rattle.dataflow_laws.proofs.Admission.{source_before, window_outputs}

cost_more : (l : AbstractLayout) (n t : ℕ) → cost_upto l n t ≤ cost_upto l (suc n) t
cost_more l zero t = omega arith
cost_more l (suc n) t = let a = total_le (l.task t).outputs (λ j. 1 + cost_upto l n (l.to t j)) (λ j. 1 + cost_upto l (suc n) (l.to t j)) (λ j k. let c = cost_more l n (l.to t j) in omega (arith, c)) in omega (arith, a)

cost_add : (l : AbstractLayout) (n k t : ℕ) → cost_upto l n t ≤ cost_upto l (n + k) t
cost_add l n zero t = (let e : n + 0 ≡ n = omega arith in rw e (omega arith))
cost_add l n (suc k) t = let a = cost_add l n k t in let c = cost_more l (n + k) t in (let e : n + suc k ≡ suc (n + k) = omega arith in rw e (omega (arith, a, c)))

cost_mono : (l : AbstractLayout) (n m t : ℕ) → n ≤ m → cost_upto l n t ≤ cost_upto l m t
cost_mono l n m t le = let e : n + (m - n) ≡ m = omega arith in let a = cost_add l n (m - n) t in (rw e at a)

-- the cost of all that a task can make pending by one message on each output
room_for : AbstractLayout → ℕ → ℕ
room_for l t = total (l.task t).outputs (λ j. 1 + cost l (l.to t j))

cost_covers : (l : AbstractLayout) → IsLayout l → (t : ℕ) → t ≤ l.sink → 1 + 2 * room_for l t ≤ cost l t
unfolding room_for
cost_covers l ok t m =
    let e : suc l.sink - t ≡ suc (l.sink - t) = omega arith in
    let a = total_le (l.task t).outputs (λ j. 1 + cost l (l.to t j)) (λ j. 1 + cost_upto l (l.sink - t) (l.to t j)) (λ j k. let o = ok.output t j k in let f = ok.forward t (l.to t j) o.0 in let c = cost_mono l (suc l.sink - l.to t j) (l.sink - t) (l.to t j) (omega arith) in omega arith) in
    let d : cost l t ≡ 1 + 2 * total (l.task t).outputs (λ j. 1 + cost_upto l (l.sink - t) (l.to t j)) = ap (λ n. cost_upto l n t) e in
    omega (arith, a, d)

pending_append : (l : AbstractLayout) (t : ℕ) (xs ys : List (ℕ × Message)) → pending_cost l t (xs ++ ys) ≡ pending_cost l t xs + pending_cost l t ys
pending_append l t [] ys = omega arith
pending_append l t (x ∷ xs) ys = let a = pending_append l t xs ys in omega (arith, a)

pending_map : (l : AbstractLayout) (t j : ℕ) (ms : List Message) → pending_cost l t (map (λ m. (j, m)) ms) ≡ length ms * (1 + cost l (l.to t j))
pending_map l t j [] = omega arith
pending_map l t j (m ∷ ms) = let a = pending_map l t j ms in omega (arith, a)

one_of : (n c : ℕ) → n ≤ 1 → n * c ≤ c
one_of zero c l = omega arith
one_of (suc zero) c l = omega arith
one_of (suc (suc n)) c l = absurd (omega arith)

spread_cost : (l : AbstractLayout) (t n : ℕ) (f : ℕ → List Message) → ((j : ℕ) → length (f j) ≤ 1) → pending_cost l t (spread n f) ≤ total n (λ j. 1 + cost l (l.to t j))
spread_cost l t zero f h = omega arith
spread_cost l t (suc n) f h =
    let a = pending_append l t (spread n f) (map (λ m. (n, m)) (f n)) in
    let c = pending_map l t n (f n) in
    let d = spread_cost l t n f h in
    let g = one_of (length (f n)) (1 + cost l (l.to t n)) (h n) in
    omega (arith, a, c, d, g)

short_batch : (width : ℕ) (xs : List Record) → length (batch width xs) ≤ 1
short_batch width [] = omega arith
short_batch width (x ∷ xs) = omega arith

route_cost : (l : AbstractLayout) (t key c : ℕ) (x : Table) → pending_cost l t (route key (l.task t) c x) ≤ room_for l t
unfolding room_for
route_cost l t key c x = let k = l.task t in spread_cost l t k.outputs (λ j. batch x.width (part key k.routing c (filter k.keeps x.rows) j)) (λ j. short_batch x.width (part key k.routing c (filter k.keeps x.rows) j))

route_of_cost : (l : AbstractLayout) (t key c : ℕ) (m : Message) → pending_cost l t (route_of key (l.task t) c m) ≤ room_for l t
route_of_cost l t key c (Rows x) = route_cost l t key c x
route_of_cost l t key c (Fired rows) = omega arith
route_of_cost l t key c (Watermark x) = omega arith
route_of_cost l t key c (Barrier n) = omega arith
route_of_cost l t key c End = omega arith

all_cost : (l : AbstractLayout) (t : ℕ) (m : Message) → pending_cost l t (to_all (l.task t).outputs m) ≤ room_for l t
unfolding room_for
all_cost l t m = spread_cost l t (l.task t).outputs (λ j. m ∷ []) (λ j. omega arith)

announce_cost : (l : AbstractLayout) (t : ℕ) (o : Option ℤ) → pending_cost l t (announce (l.task t).outputs o) ≤ room_for l t
announce_cost l t None = omega arith
announce_cost l t (Some x) = all_cost l t (Watermark x)

first_le : (n : ℕ) (f : ℕ → ℕ) → 0 < n → f 0 ≤ total n f
first_le zero f l = absurd (omega arith)
first_le (suc zero) f l = omega arith
first_le (suc (suc n)) f l = let a = first_le (suc n) f (omega arith) in omega (arith, a)

fired_cost : (l : AbstractLayout) (t : ℕ) (rows : List Row) → 0 < (l.task t).outputs → pending_cost l t (fired rows) ≤ room_for l t
unfolding room_for
fired_cost l t [] o = omega arith
fired_cost l t (r ∷ rows) o = let a = first_le (l.task t).outputs (λ j. 1 + cost l (l.to t j)) o in omega (arith, a)

two_costs : (l : AbstractLayout) (t : ℕ) (xs ys : List (ℕ × Message)) → pending_cost l t xs ≤ room_for l t → pending_cost l t ys ≤ room_for l t → pending_cost l t (xs ++ ys) ≤ 2 * room_for l t
two_costs l t xs ys a c = omega (arith, pending_append l t xs ys, a, c)

-- entries left, after one was read
left_after : (n q : ℕ) (offs : List ℕ) (size : ℕ → ℕ) → q < n → length offs ≡ n → get_or offs q 0 < size q → total n (λ x. size x - get_or (set offs q (suc (get_or offs q 0))) x 0) + 1 ≡ total n (λ x. size x - get_or offs x 0)
left_after n q offs size l e h =
    let c = total_change n q (λ x. size x - get_or (set offs q (suc (get_or offs q 0))) x 0) (λ x. size x - get_or offs x 0) l (λ x ne. ap (λ y. size x - y) (get_or-set_other offs q x (suc (get_or offs q 0)) 0 ne)) in
    let d = get_or-set_same offs q (suc (get_or offs q 0)) 0 (omega arith) in
    omega (arith, c, d, h)

-- how many of a task's own steps an event uses up
abbrev used : Event → ℕ
used Open = 1
used (Read n) = 1
used Save = 1
used Stop = 1
used Close = 1
used (Take i m) = 0
used (Put j m) = 0

record Costs (l : AbstractLayout) (t : ℕ) (s : State) (e : Event) (s' : State) : Type 0 where
  pends : pending_cost l t s'.pending ≤ 2 * room_for l t
  had : s.pending ≡ []
  own : own_steps (l.task t) s' + used e ≤ own_steps (l.task t) s

over_less : (a c : Bool) → a ≡ false → cond {A = ℕ} c 0 1 ≤ cond a 0 1
over_less a true e = rw e (omega arith)
over_less a false e = rw e (omega arith)

-- what is known of the task's state
record Known (l : AbstractLayout) (t : ℕ) (s : State) : Type 0 where
  windows : (l.task t).role ≡ Window → 0 < (l.task t).outputs
  limits : (l.task t).role ≡ Source → HasLimits (l.task t)
  reading : (l.task t).role ≡ Source → Reading (l.task t) s
  going : (i : ℕ) → CanTake (l.task t) s i → s.over ≡ false

-- a step that changes nothing but what was said
nothing_more : (l : AbstractLayout) (t : ℕ) (ps : List (ℕ × Message)) → ps ≡ [] → pending_cost l t ps ≤ 2 * room_for l t
nothing_more l t ps e = let c = ap (pending_cost l t) e in omega (arith, c)

-- a step that is no put
step_costs : (p : PlanData) (l : AbstractLayout) (t : ℕ) (s : State) (e : Event) (s' : State) → Known l t s → LocalStep p (l.task t) s e s' → IsPut e ⊎ Costs l t s e s'
step_costs p l t s e s' kn (put is) = inl tt
step_costs p l t s e s' kn (opens can) = inr (record { pends = (let c = announce_cost l t (risen lowest (least s.inputs.marks)) in omega (arith, c)); had = can.idle; own = (let o = can.shut in rw o (omega arith)) })
step_costs p l t s e s' kn (reads {q = q} own) =
    let k = l.task t in
    let c = own.can.can in
    let r = kn.reading c.source in
    let h = kn.limits c.source in
    let up = limit_up k h q s.next own.can.partition (r.going c.going) in
    let size = h.within q own.can.partition in
    let rest = own.can.rest in
    let left = left_after k.inputs q s.offsets k.size own.can.partition r.long (omega (arith, up, size, rest)) in
    inr (record {
      pends = two_costs l t (route_of p.window.key k s.cursor (k.entry q (get_or s.offsets q 0))) (announce k.outputs (rise s.inputs.marks q (k.brings q (get_or s.offsets q 0))))
          (route_of_cost l t p.window.key s.cursor (k.entry q (get_or s.offsets q 0))) (announce_cost l t (rise s.inputs.marks q (k.brings q (get_or s.offsets q 0))));
      had = c.idle;
      own = omega (arith, left);
    })
step_costs p l t s e s' kn (saves can may) = inr (record { pends = (let c = all_cost l t (Barrier ((l.task t).first + s.next)) in omega (arith, c)); had = can.idle; own = (let m = may.0 in omega (arith, m)) })
step_costs p l t s e s' kn (stops can may) = inr (record { pends = (let c = all_cost l t (Barrier ((l.task t).first + s.next)) in omega (arith, c)); had = can.idle; own = (let o = can.going in rw o (omega arith)) })
step_costs p l t s e s' kn (closes can may) = inr (record { pends = (let c = all_cost l t End in omega (arith, c)); had = can.idle; own = (let o = can.going in rw o (omega arith)) })
step_costs p l t s e s' kn (chain_rows {t = x} role tk) = inr (record { pends = (let c = route_cost l t p.window.key s.cursor x in omega (arith, c)); had = tk.can.idle; own = omega arith })
step_costs p l t s e s' kn (chain_mark {i = i} {t = x} role tk) = inr (record { pends = (let c = announce_cost l t (rise s.inputs.marks i x) in omega (arith, c)); had = tk.can.idle; own = omega arith })
step_costs p l t s e s' kn (window_rows role tk added) = inr (record { pends = nothing_more l t s.pending tk.can.idle; had = tk.can.idle; own = omega arith })
step_costs p l t s e s' kn (window_mark {i = i} {t = x} rows role tk fires) =
    inr (record { pends = two_costs l t (fired rows) (announce (l.task t).outputs (rise s.inputs.marks i x)) (fired_cost l t rows (kn.windows role)) (announce_cost l t (rise s.inputs.marks i x)); had = tk.can.idle; own = omega arith })
step_costs p l t s e s' kn (sink_rows role tk) = inr (record { pends = nothing_more l t s.pending tk.can.idle; had = tk.can.idle; own = omega arith })
step_costs p l t s e s' kn (sink_mark role tk) = inr (record { pends = nothing_more l t s.pending tk.can.idle; had = tk.can.idle; own = omega arith })
step_costs p l t s e s' kn (holds tk is) = inr (record { pends = nothing_more l t s.pending tk.can.idle; had = tk.can.idle; own = omega arith })
step_costs p l t s e s' kn (aligns {i = i} tk is) =
    inr (record { pends = (let c = all_cost l t (Barrier ((l.task t).first + s.next)) in omega (arith, c)); had = tk.can.idle; own = (let c = over_less s.over (is_last (l.task t) s.next) (kn.going i tk.can) in omega (arith, c)) })
step_costs p l t s e s' kn (ends tk is) = inr (record { pends = nothing_more l t s.pending tk.can.idle; had = tk.can.idle; own = omega arith })
step_costs p l t s e s' kn (ends_all {i = i} tk is) = inr (record { pends = (let c = all_cost l t End in omega (arith, c)); had = tk.can.idle; own = (let c = over_less s.over true (kn.going i tk.can) in omega (arith, c)) })
step_costs p l t s e s' kn (ends_aligned {i = i} tk is) =
    inr (record { pends = (let c = all_cost l t (Barrier ((l.task t).first + s.next)) in omega (arith, c)); had = tk.can.idle; own = (let c = over_less s.over (is_last (l.task t) s.next) (kn.going i tk.can) in omega (arith, c)) })

falls_inner : (c own own' pend : ℕ) → own' + 1 ≤ own → pend + 1 ≤ c → pend + c * own' < c * own
falls_inner c own own' pend h k = let a = mul-le-mul_left c h in omega (arith, a, k)

falls_take : (c own own' : ℕ) → own' + 0 ≤ own → c * own' ≤ c * own
falls_take c own own' h = let g : own' ≤ own = omega arith in mul-le-mul_left c g

-- the tasks' costs, with one task's state changed
tasks_change : (l : AbstractLayout) (tasks : ℕ → State) (t : ℕ) (s : State) → t ≤ l.sink → total (suc l.sink) (λ x. task_cost l x (with_task t s tasks x)) + task_cost l t (tasks t) ≡ total (suc l.sink) (λ x. task_cost l x (tasks x)) + task_cost l t s
tasks_change l tasks t s m =
    let a = total_change (suc l.sink) t (λ x. task_cost l x (with_task t s tasks x)) (λ x. task_cost l x (tasks x)) (omega arith) (λ x ne. let d = ne_eqb x t ne in rw d refl) in
    let d = eq-eqb t t refl in
    let e : task_cost l t (with_task t s tasks t) ≡ task_cost l t s = (rw d refl) in
    omega (arith, a, e)

rings_change : (l : AbstractLayout) (rings : ℕ → ℕ → List Message) (s t : ℕ) (v : List Message) → s ≤ l.sink → t ≤ l.sink
    → total (suc l.sink) (λ x. total (suc l.sink) (λ y. cost l y * length (with_ring s t v rings x y))) + cost l t * length (rings s t) ≡ total (suc l.sink) (λ x. total (suc l.sink) (λ y. cost l y * length (rings x y))) + cost l t * length v
rings_change l rings s t v m m' =
    let a = total_change (suc l.sink) s (λ x. total (suc l.sink) (λ y. cost l y * length (with_ring s t v rings x y))) (λ x. total (suc l.sink) (λ y. cost l y * length (rings x y))) (omega arith) (λ x ne. total_same (suc l.sink) (λ y. cost l y * length (with_ring s t v rings x y)) (λ y. cost l y * length (rings x y)) (λ y k. let d = ne_eqb x s ne in rw d refl)) in
    let d = eq-eqb s s refl in
    let d' = eq-eqb t t refl in
    let c = total_change (suc l.sink) t (λ y. cost l y * length (with_ring s t v rings s y)) (λ y. cost l y * length (rings s y)) (omega arith) (λ y ne. let n = ne_eqb y t ne in rw (d, n) refl) in
    let e : cost l t * length (with_ring s t v rings s t) ≡ cost l t * length v = (rw (d, d') refl) in
    omega (arith, a, c, e)

mul_more : (c n : ℕ) → c * suc n ≡ c * n + c
mul_more c n = omega arith

used_inner : (e : Event) → IsInner e → used e ≡ 1
used_inner Open i = refl
used_inner (Read n) i = refl
used_inner Save i = refl
used_inner Stop i = refl
used_inner Close i = refl
used_inner (Take i m) h = absurd h
used_inner (Put j m) h = absurd h

not_put : (e : Event) → IsInner e → IsPut e → ⊥
not_put Open i x = x
not_put (Read n) i x = x
not_put Save i x = x
not_put Stop i x = x
not_put Close i x = x
not_put (Take i m) h x = h
not_put (Put j m) h x = h

known : (p : PlanData) (l : AbstractLayout) (start : ℕ → State) (w : World) → IsLayout l → IsLegStart p l start → IsEnd p l start w → (t : ℕ) → t ≤ l.sink → Known l t (w.tasks t)
known p l start w ok b r t m =
    let x = behind_end p l start w r in
    record {
      windows = window_outputs l ok t m;
      limits = λ a. has_limits p l start b t (source_before l ok t m a) a;
      reading = λ a. reading_at p l start ok b t (source_before l ok t m a) a (x.run t);
      going = λ i c. not_over (l.task t) (x.steps t) (w.tasks t) i c (ins p (l.task t) (start t) c.taker (ok.some_input t (no_source (l.task t) c.taker) m) (fresh p (l.task t).role (l.task t) (start t) (b.opens t m)) (x.run t));
    }

put_facts : (p : PlanData) (k : AbstractTask) (s : State) (j : ℕ) (m : Message) (s' : State) → LocalStep p k s (Put j m) s' → (s.pending ≡ (j, m) ∷ s'.pending) × (own_steps k s' ≡ own_steps k s)
put_facts p k s j m s' (put is) = (is, refl)

falls_by : (p : PlanData) (l : AbstractLayout) (capacity : ℕ) (w : World) (t : ℕ) (e : Event) (w' : World) → IsLayout l → ((u : ℕ) → u ≤ l.sink → Known l u (w.tasks u)) → Move p l capacity w t e w' → world_cost l w' < world_cost l w
unfolding room_for
falls_by p l capacity w t e w' ok kn (inner {s = s} m i st) =
    let sc = step_costs p l t (w.tasks t) e s (kn t m) st in
    let ch = tasks_change l w.tasks t s m in
    elim sc [
      | inl y ↦ absurd (not_put e i y)
      | inr c ↦
          (let cov = cost_covers l ok t m in
          let u = used_inner e i in
          let pe : pending_cost l t (w.tasks t).pending ≡ 0 = ap (pending_cost l t) c.had in
          let f = falls_inner (cost l t) (own_steps (l.task t) (w.tasks t)) (own_steps (l.task t) s) (pending_cost l t s.pending) (let o = c.own in omega (arith, o, u)) (let o = c.pends in omega (arith, o, cov)) in
          omega (arith, ch, pe, f))
    ]
falls_by p l capacity w t e w' ok kn (takes {i = i} {m = msg} {s = s} m rest r st) =
    let sc = step_costs p l t (w.tasks t) (Take i msg) s (kn t m) st in
    let ch = tasks_change l w.tasks t s m in
    elim sc [
      | inl y ↦ absurd y
      | inr c ↦
          (let cov = cost_covers l ok t m in
          let pe : pending_cost l t (w.tasks t).pending ≡ 0 = ap (pending_cost l t) c.had in
          let f = falls_take (cost l t) (own_steps (l.task t) (w.tasks t)) (own_steps (l.task t) s) c.own in
          let needs = step_needs p (l.task t) (w.tasks t) (Take i msg) s st in
          let fb : l.from t i ≤ l.sink = (let inp = ok.input t i (no_source (l.task t) needs.can.taker) needs.can.input in let fw = ok.forward (l.from t i) t inp.0 in omega (arith, fw, m)) in
          let rc = rings_change l w.rings (l.from t i) t rest fb m in
          let n : length (w.rings (l.from t i) t) ≡ length rest + 1 = ap length r ∙ length-append rest (msg ∷ []) ∙ omega arith in
          let nn : cost l t * length (w.rings (l.from t i) t) ≡ cost l t * (length rest + 1) = ap (λ x. cost l t * x) n in
          let o = c.pends in
          omega (arith, ch, pe, f, rc, nn, o, cov))
    ]
falls_by p l capacity w t e w' ok kn (puts {j = j} {m = msg} {s = s} m lim jl st) =
    let pf = put_facts p (l.task t) (w.tasks t) j msg s st in
    let ch = tasks_change l w.tasks t s m in
    let u = l.to t j in
    let o = ok.output t j jl in
    let rc = rings_change l w.rings t u (msg ∷ w.rings t u) m o.2 in
    let pc : pending_cost l t (w.tasks t).pending ≡ 1 + cost l u + pending_cost l t s.pending = ap (pending_cost l t) pf.0 in
    let oc : cost l t * own_steps (l.task t) s ≡ cost l t * own_steps (l.task t) (w.tasks t) = ap (λ x. cost l t * x) pf.1 in
    let cc' : cost l u * length (msg ∷ w.rings t u) ≡ cost l u * length (w.rings t u) + cost l u = mul_more (cost l u) (length (w.rings t u)) in
    omega (arith, ch, rc, pc, oc, cc')

pub falls : Falls
falls p l capacity start w t e w' ok b r mv = falls_by p l capacity w t e w' ok (known p l start w ok b r) mv
