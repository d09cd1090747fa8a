-- What is known at each ring of a flow.
use Rattle.std.proofs.Common.{◌≡◌, ℕ, zero, suc, ◌+◌, ◌<◌, ◌≤◌, List, ◌++◌, Bool, true, false, cond, ◌&&◌, length, get_or, refl, sym, ap, subst, ◌∙◌, ◌⊎◌, inl, inr, arith, ℤ, ◌≤ℤ◌}
use Rattle.std.proofs.lemmas.Bool.{cases_eq, cases_Bool, cases_lt, false≢true}
use Rattle.std.proofs.lemmas.Int.{ints}
use Rattle.plain_data.specs.Record.{Record, at}
use Rattle.plain_data.specs.Times.{lowest}
use Rattle.plan_model.specs.PlanData.{PlanData}
use Rattle.input_state.specs.Inputs.{least}
use Rattle.dataflow_model.specs.declared.message.Message.{Message}
use Rattle.dataflow_model.specs.declared.role.Role.{Role}
use Rattle.dataflow_model.specs.declared.role.Role.TheVariants.{Source, Chain}
use Rattle.dataflow_model.specs.Message.{records_of}
use Rattle.dataflow_model.specs.Role.{is_source}
use Rattle.dataflow_model.specs.AbstractTask.{Routing, Whole, Split}
use Rattle.dataflow_model.specs.AbstractLayout.{AbstractLayout, IsLayout, Sends}
use Rattle.dataflow_model.specs.State.{State}
use Rattle.dataflow_model.specs.Runs.{taken, given}
use Rattle.dataflow_model.specs.Cuts.{IsOrderlySource, cut_of, joined, records_until}
use Rattle.dataflow_model.specs.Flow.{Flow}
use Rattle.dataflow_laws.proofs.Streams.{weigh, weigh_log, mark_of, IsOrderly, Owns}
use Rattle.dataflow_laws.proofs.Sums.{flow}
use Rattle.dataflow_laws.proofs.Logs.{weigh_append, weigh_of, weigh_filter, weigh_cond, weigh_log_append, weigh_message_same, weigh_log_same, orderly_suffix, mark_suffix}
use Rattle.dataflow_laws.proofs.Relay.{Relays, IsFresh, relays, kept, least_le}
use Rattle.dataflow_laws.proofs.Reader.{HasRead, IsReady, has_read, below}
use Rattle.dataflow_laws.proofs.Windows.{HasCounted, IsRestored, has_counted, records}
use Rattle.dataflow_laws.proofs.Taken.{records_weigh}
use Rattle.dataflow_model.specs.Sums.{total}
use Rattle.dataflow_model.proofs.Facts.{total_add, total_front, total_none, total_places, total_same, no_source, source_yes}

-- tasks as they start, each by its role
pub record IsOpened (plan : PlanData) (l : AbstractLayout) (start : ℕ → State) : Type 0 where
  pub ready : (t : ℕ) → t < l.before → (l.task t).role ≡ Source → IsReady (l.task t) (start t)
  pub orderly : (t : ℕ) → t < l.before → (l.task t).role ≡ Source → IsOrderlySource plan (l.task t)
  pub limits : (t : ℕ) → t < l.before → (l.task t).role ≡ Source → (m q : ℕ) → q < (l.task t).inputs → m ≤ (l.task t).saves → ((l.task t).limit m q ≤ (l.task t).limit (l.task t).saves q) × ((l.task t).limit (l.task t).saves q ≤ (l.task t).size q)
  pub chain : (t : ℕ) → t < l.before → (l.task t).role ≡ Chain → IsFresh (l.task t) (start t)
  pub window : (t : ℕ) → l.before ≤ t → t < l.sink → IsRestored plan (l.task t) (start t)

-- what a task sends to a window, the window owns
owned_by : (plan : PlanData) (l : AbstractLayout) (s j : ℕ) (r : Record) (routing : Routing) → Sends l s routing → j < (l.task s).outputs → l.before ≤ l.to s j → Owns plan.window.key routing j r → l.owner (at plan.window.key r) ≡ l.to s j
owned_by plan l s j r Whole sends k b own = absurd (let c = sends j k in omega arith)
owned_by plan l s j r (Split owner) sends k b own = sym (sends (at plan.window.key r)).1 ∙ ap (l.to s) own

pub owned_of : (plan : PlanData) (l : AbstractLayout) → IsLayout l → (s j : ℕ) (r : Record) → s < l.before → j < (l.task s).outputs → l.before ≤ l.to s j → Owns plan.window.key (l.task s).routing j r → l.owner (at plan.window.key r) ≡ l.to s j
owned_of plan l ok s j r m k b own = owned_by plan l s j r (l.task s).routing (ok.sends s m) k b own

-- what a weight counts of what the filters after a task keep
abbrev pub rested : AbstractLayout → ℕ → (Record → ℕ) → Record → ℕ
rested l t h r = cond (l.rest t r) (h r) 0

pub source_is : (r : Role) → r ≡ Source → is_source r ≡ true
source_is r e = rw e refl

pub source_isnt : (r : Role) → r ≡ Chain → is_source r ≡ false
source_isnt r e = rw e refl

pub weigh_joined : (h : Record → ℕ) (n : ℕ) (f : ℕ → List Record) → weigh h (joined n f) ≡ total n (λ k. weigh h (f k))
weigh_joined h zero f = refl
weigh_joined h (suc n) f = let a = weigh_append h (joined n f) (f n) in let c = weigh_joined h n f in omega (arith, a, c)

cond_both : (a b' : Bool) (n : ℕ) → cond a (cond b' n 0) 0 ≡ cond (a && b') n 0
cond_both true b' n = refl
cond_both false b' n = refl

cond_same : (t : Bool) → cond {A = ℕ} t 0 0 ≡ 0
cond_same true = refl
cond_same false = refl

-- the records that pass, of one task's partitions, by weight
abbrev pub read_weight : AbstractLayout → (Record → ℕ) → (ℕ → ℕ → ℕ) → ℕ → ℕ
read_weight l h cut t = cond (is_source (l.task t).role) (total (l.task t).inputs (λ p. below (λ r. cond (l.pass r) (h r) 0) ((l.task t).entry p) (cut t p))) 0

pub input_weight : (l : AbstractLayout) (h : Record → ℕ) (cut : ℕ → ℕ → ℕ) → weigh h (records_until l cut) ≡ total l.before (read_weight l h cut)
input_weight l h cut =
    weigh_joined h l.before _
    ∙ total_same l.before _ _ (λ t m.
    weigh_cond h (is_source (l.task t).role) _
    ∙ ap (λ x. cond (is_source (l.task t).role) x 0)
    (weigh_joined h (l.task t).inputs _ ∙ total_same (l.task t).inputs _ _ (λ p k. weigh_joined h (cut t p) _ ∙ total_same (cut t p) _ _ (λ n q. weigh_filter h l.pass (records_of ((l.task t).entry p n)) ∙ weigh_of (λ r. cond (l.pass r) (h r) 0) ((l.task t).entry p n)))))

module _ (plan : PlanData) (l : AbstractLayout) (ok : IsLayout l) (start : ℕ → State) (op : IsOpened plan l start) (H : Flow plan l start) where
  abbrev pub given_on : ℕ → ℕ → List Message
  given_on t j = given j (H.steps t) (H.end t)

  abbrev pub taken_on : ℕ → ℕ → List Message
  taken_on t i = taken i (H.steps t)

  pub read_at : (t : ℕ) → t < l.before → (l.task t).role ≡ Source → HasRead plan (l.task t) (start t) (H.steps t) (H.end t)
  read_at t m a = has_read plan (l.task t) (start t) (op.orderly t m a) (op.limits t m a) a (op.ready t m a) (H.run t)

  pub relays_at : (t : ℕ) → t < l.before → (l.task t).role ≡ Chain → Relays plan (l.task t) (H.steps t) (H.end t)
  relays_at t m a = relays plan (l.task t) a (start t) (op.chain t m a) (H.run t)

  pub windows_at : (t : ℕ) → l.before ≤ t → t < l.sink → HasCounted plan (l.task t) (start t) (H.steps t) (H.end t)
  windows_at t m m' = has_counted plan (l.task t) (start t) (ok.roles_window t m m') (ok.window_out t m m').0 (op.window t m m') (H.run t)

  pub kind : (t : ℕ) → t < l.before → ((l.task t).role ≡ Source) ⊎ ((l.task t).role ≡ Chain)
  kind t m = elim (cases_Bool (is_source (l.task t).role)) [ inl e ↦ inl (source_yes (l.task t).role e) | inr e ↦ inr (ok.roles_before t m (no_source (l.task t) e)) ]

  pub chain_apart : (t : ℕ) → (l.task t).role ≡ Chain → (l.task t).role ≡ Source → ⊥
  chain_apart t a c = absurd cc

  -- on each ring, what was taken is the older part of what was given
  pub ahead : (s t : ℕ) → l.ring s t ≡ true → (x : List Message) × (given_on s (l.out_at s t) ≡ x ++ taken_on t (l.in_at s t))
  ahead s t r = H.ahead s t r

  -- the sender of an input
  pub sender : (t i : ℕ) → t ≤ l.sink → ((l.task t).role ≡ Source → ⊥) → i < (l.task t).inputs → (l.ring (l.from t i) t ≡ true) × (l.in_at (l.from t i) t ≡ i) × (l.from t i < t)
  sender t i m ns k = let a = ok.input t i ns k in (a.0, a.1, ok.forward (l.from t i) t a.0)

  pub sender_before : (s t : ℕ) → t < l.sink → l.ring s t ≡ true → s < l.before
  sender_before s t m r =
      elim (cases_lt s l.before) [
        | inl a ↦ a
        | inr a ↦ absurd (let f = ok.forward s t r in false≢true (sym (ok.window_only s t a (omega arith) m) ∙ r))
      ]

  inputs_orderly : (t : ℕ) → t < l.sink → ((l.task t).role ≡ Source → ⊥) → ((s j : ℕ) → s < t → s < l.before → j < (l.task s).outputs → IsOrderly plan.window.time (given_on s j)) → (i : ℕ) → i < (l.task t).inputs → IsOrderly plan.window.time (taken_on t i)
  inputs_orderly t m ns h i k =
      let a = sender t i (omega arith) ns k in
      let s = l.from t i in
      let o = h s (l.out_at s t) a.2 (sender_before s t m a.0) (ok.ring_out s t a.0).0 in
      let d = ahead s t a.0 in
      subst (λ q. IsOrderly plan.window.time (taken_on t q)) a.1 (orderly_suffix plan.window.time d.0 (taken_on t (l.in_at s t)) (subst (IsOrderly plan.window.time) d.1 o))

  orderly_upto : (n t : ℕ) → t < n → t < l.before → (j : ℕ) → j < (l.task t).outputs → IsOrderly plan.window.time (given_on t j)
  orderly_upto zero t m p j k = absurd (omega arith)
  orderly_upto (suc n) t m p j k =
      elim (kind t p) [
        | inl a ↦ (read_at t p a).orderly j k
        | inr a ↦ (relays_at t p a).orderly (inputs_orderly t (let w = ok.some_windows in omega arith) (chain_apart t a) (λ s j m' p' k'. orderly_upto n s (omega arith) p' j k')) j k
      ]

  pub orderly_given : (t : ℕ) → t < l.before → (j : ℕ) → j < (l.task t).outputs → IsOrderly plan.window.time (given_on t j)
  orderly_given t p j k = orderly_upto (suc t) t (omega arith) p j k

  pub orderly_taken : (t : ℕ) → t < l.sink → ((l.task t).role ≡ Source → ⊥) → (i : ℕ) → i < (l.task t).inputs → IsOrderly plan.window.time (taken_on t i)
  orderly_taken t m ns = inputs_orderly t m ns (λ s j a p k. orderly_given s p j k)

  -- the watermark that a task has given
  abbrev pub said : ℕ → ℤ
  said t = mark_of (given_on t 0)

  pub said_source : (t : ℕ) → t < l.before → (a : (l.task t).role ≡ Source) → said t ≡ cond (H.end t).opened (least (H.end t).inputs.marks) lowest
  said_source t p a = (read_at t p a).said 0 (ok.some_output t p)

  pub said_chain : (t : ℕ) → t < l.before → (a : (l.task t).role ≡ Chain) → said t ≡ least (H.end t).inputs.marks
  said_chain t p a = (relays_at t p a).said 0 (ok.some_output t p)

  pub said_each : (t : ℕ) → t < l.before → (j : ℕ) → j < (l.task t).outputs → mark_of (given_on t j) ≡ said t
  said_each t p j k =
      elim (kind t p) [
        | inl a ↦ (read_at t p a).said j k ∙ sym ((read_at t p a).said 0 (ok.some_output t p))
        | inr a ↦ (relays_at t p a).said j k ∙ sym ((relays_at t p a).said 0 (ok.some_output t p))
      ]

  pub taken_below : (s t : ℕ) → s < l.before → l.ring s t ≡ true → mark_of (taken_on t (l.in_at s t)) ≤ℤ said s
  taken_below s t p r =
      let d = ahead s t r in
      let e = said_each s p (l.out_at s t) (ok.ring_out s t r).0 in
      let e' = ap mark_of d.1 in
      omega (arith, ints, e, e', mark_suffix d.0 (taken_on t (l.in_at s t)))

  -- the marks of a chain or a window are those of what it took
  pub not_source : (s t : ℕ) → l.ring s t ≡ true → (l.task t).role ≡ Source → ⊥
  not_source s t r a = false≢true (sym (ok.no_ring_in s t a) ∙ r)

  abbrev pub low : ℕ → ℤ
  low t = least (H.end t).inputs.marks

  pub low_below : (s t : ℕ) → s < l.before → t < l.sink → l.ring s t ≡ true → low t ≤ℤ said s
  low_below s t p m r =
      let i = ok.ring_in s t r in
      let tb = taken_below s t p r in
      elim (cases_lt t l.before) [
        | inl q ↦
            let w = relays_at t q (ok.roles_before t q (not_source s t r)) in
            let n : l.in_at s t < length (H.end t).inputs.marks = (rw w.length_marks i.0) in
            let a = w.marks (l.in_at s t) i.0 in
            omega (arith, ints, a, tb, least_le (H.end t).inputs.marks (l.in_at s t) n)
        | inr q ↦
            let w = windows_at t q m in
            let n : l.in_at s t < length (H.end t).inputs.marks = (rw w.length_marks i.0) in
            let a = w.marks (l.in_at s t) i.0 in
            omega (arith, ints, a, tb, least_le (H.end t).inputs.marks (l.in_at s t) n)
      ]

  -- a window's watermark is at most that of each task before the windows
  pub low_reaches : (u : ℕ) → l.before ≤ u → u < l.sink → (n t : ℕ) → l.before ≤ t + n → t < l.before → low u ≤ℤ said t
  low_reaches u q m zero t f p = absurd (omega arith)
  low_reaches u q m (suc n) t f p =
      let v = l.to t 0 in
      let o = ok.output t 0 (ok.some_output t p) in
      let fw = ok.forward t v o.0 in
      let ns : v < l.sink = elim (cases_eq v l.sink) [ inl e ↦ absurd (false≢true (sym (ok.before_sink t p) ∙ ap (l.ring t) (sym e) ∙ o.0)) | inr e ↦ (let w = o.2 in omega arith) ] in
      elim (cases_lt v l.before) [
        | inl a ↦
            let c = ok.roles_before v a (not_source t v o.0) in
            let i = low_reaches u q m n v (omega arith) a in
            let d = low_below t v p ns o.0 in
            let e = said_chain v a c in
            (omega (arith, ints, i, e, d))
        | inr a ↦ low_below t u p m (ok.all_windows t v u a ns q m o.0)
      ]

  -- and at most that of each partition where the source stands
  pub window_below : (u : ℕ) → l.before ≤ u → u < l.sink → (t p : ℕ) → t < l.before → (l.task t).role ≡ Source → p < (l.task t).inputs → low u ≤ℤ (l.task t).watermark p (get_or (H.end t).offsets p 0)
  window_below u q m t p b' a k =
      let r = read_at t b' a in
      let x = low_reaches u q m l.before t (omega arith) b' in
      let y = said_source t b' a in
      let n : p < length (H.end t).inputs.marks = (rw r.length_marks k) in
      let z = least_le (H.end t).inputs.marks p n in
      let w = r.marks p k in
      elim (cases_Bool (H.end t).opened) [
        | inl o ↦ (let y' = y ∙ ap (λ c. cond c (least (H.end t).inputs.marks) lowest) o in omega (arith, ints, x, y', z, w))
        | inr o ↦ (let y' = y ∙ ap (λ c. cond c (least (H.end t).inputs.marks) lowest) o in let v = (op.orderly t b' a).bounded p (get_or (H.end t).offsets p 0) k (let i = r.within p k in let c = op.limits t b' a 0 p k (omega arith) in omega (arith, i, c)) in omega (arith, ints, x, y', v))
      ]

  -- a window task takes no record that another owns
  pub foreign : (u : ℕ) → l.before ≤ u → u < l.sink → (h : Record → ℕ) → ((r : Record) → l.owner (at plan.window.key r) ≡ u → h r ≡ 0) → weigh h (records (H.steps u)) ≡ 0
  foreign u q m h support =
      let ns : (l.task u).role ≡ Source → ⊥ = λ a. (let r = ok.roles_window u q m in cc) in
      records_weigh plan (l.task u) (start u) h (H.run u)
      ∙ total_same (l.task u).inputs _ (λ i. 0) (λ i k.
      let a = sender u i (omega arith) ns k in
      let s = l.from u i in
      let p = sender_before s u m a.0 in
      let o = ok.ring_out s u a.0 in
      let j = l.out_at s u in
      let none : (r : Record) → Owns plan.window.key (l.task s).routing j r → h r ≡ 0 = λ r ow. support r (owned_of plan l ok s j r p o.0 (rw o.1 q) ow ∙ o.1) in
      let z : weigh_log h (given_on s j) ≡ 0 = elim (kind s p) [
        | inl x ↦ (read_at s p x).owned h j o.0 none
        | inr x ↦ (relays_at s p x).owned h j o.0 none
      ] in
      let d = ahead s u a.0 in
      let e = ap (weigh_log h) d.1 in
      let e' = weigh_log_append h d.0 (taken_on u (l.in_at s u)) in
      let e'' = ap (λ x. weigh_log h (taken_on u x)) a.1 in
      omega (arith, z, e, e', e''))
      ∙ total_none (l.task u).inputs

-- what reaches a window task, by a weight of records that it owns
module _ (plan : PlanData) (l : AbstractLayout) (ok : IsLayout l) (start : ℕ → State) (op : IsOpened plan l start) (H : Flow plan l start) (u : ℕ) (q : l.before ≤ u) (m : u < l.sink) (h : Record → ℕ) (support : (r : Record) → (l.owner (at plan.window.key r) ≡ u → ⊥) → h r ≡ 0)
    (same : (s t : ℕ) → s < l.before → t < l.sink → l.ring s t ≡ true → weigh_log (rested l s h) (given_on plan l ok start op H s (l.out_at s t)) ≡ weigh_log (rested l s h) (taken_on plan l ok start op H t (l.in_at s t))) where
  w : ℕ → ℕ → ℕ
  w s t = cond (l.ring s t) (weigh_log (rested l s h) (taken_on plan l ok start op H t (l.in_at s t))) 0

  w_none : (s t : ℕ) → l.ring s t ≡ false → w s t ≡ 0
  unfolding w
  w_none s t e = rw e refl

  out_total : (t : ℕ) → t < l.before → total (suc l.sink) (λ v. w t v) ≡ total (l.task t).outputs (λ j. weigh_log (rested l t h) (given_on plan l ok start op H t j))
  unfolding w
  out_total t p =
      total_same (suc l.sink) (λ v. cond (l.ring t v) (weigh_log (rested l t h) (taken_on plan l ok start op H v (l.in_at t v))) 0) (λ v. cond (l.ring t v) (weigh_log (rested l t h) (given_on plan l ok start op H t (l.out_at t v))) 0) (λ v k. elim (cases_Bool (l.ring t v)) [
        | inl e ↦ rw e (elim (cases_eq v l.sink) [
          | inl z ↦ absurd (false≢true (sym (ok.before_sink t p) ∙ ap (l.ring t) (sym z) ∙ e))
          | inr z ↦ sym (same t v p (omega arith) e)
        ])
        | inr e ↦ rw e refl
      ])
      ∙ total_places (suc l.sink) (l.task t).outputs (l.ring t) (l.out_at t) (l.to t) (λ j. weigh_log (rested l t h) (given_on plan l ok start op H t j))
      (λ j k. let o = ok.output t j k in (omega (arith, o.2), o.0, o.1))
      (λ v k e. ok.ring_out t v e)

  in_total : (t : ℕ) → ((l.task t).role ≡ Source → ⊥) → t ≤ l.sink → total (suc l.sink) (λ s. w s t) ≡ total (l.task t).inputs (λ i. weigh_log (rested l (l.from t i) h) (taken_on plan l ok start op H t i))
  unfolding w
  in_total t ns le =
      total_same (suc l.sink) (λ s. cond (l.ring s t) (weigh_log (rested l s h) (taken_on plan l ok start op H t (l.in_at s t))) 0) (λ s. cond (l.ring s t) (weigh_log (rested l (l.from t (l.in_at s t)) h) (taken_on plan l ok start op H t (l.in_at s t))) 0) (λ s k. elim (cases_Bool (l.ring s t)) [
        | inl e ↦ rw e (ap (λ x. weigh_log (rested l x h) (taken_on plan l ok start op H t (l.in_at s t))) (sym (ok.ring_in s t e).1))
        | inr e ↦ rw e refl
      ])
      ∙ total_places (suc l.sink) (l.task t).inputs (λ s. l.ring s t) (λ s. l.in_at s t) (l.from t) (λ i. weigh_log (rested l (l.from t i) h) (taken_on plan l ok start op H t i))
      (λ i k. let a = ok.input t i ns k in let f = ok.forward (l.from t i) t a.0 in (omega (arith, f), a.0, a.1))
      (λ s k e. ok.ring_in s t e)

  src : ℕ → ℕ
  src t = cond (is_source (l.task t).role) (total (suc l.sink) (λ v. w t v)) 0

  kept_flow : (t : ℕ) → t < l.before → total (suc l.sink) (λ v. w t v) ≡ total (suc l.sink) (λ s. w s t) + src t
  unfolding src
  kept_flow t p =
      elim (kind plan l ok start op H t p) [
        | inl a ↦
            (let e = source_is (l.task t).role a in
            let z : total (suc l.sink) (λ s. w s t) ≡ 0 = total_same (suc l.sink) _ (λ s. 0) (λ s k. w_none s t (ok.no_ring_in s t a)) ∙ total_none (suc l.sink) in
            rw e (omega (arith, z)))
        | inr a ↦
            (let e = source_isnt (l.task t).role a in
            let o = out_total t p in
            let f = (relays_at plan l ok start op H t p a).flow (rested l t h) in
            let i = in_total t (chain_apart plan l ok start op H t a) (let sw = ok.some_windows in omega arith) in
            let g = total_same (l.task t).inputs (λ x. weigh_log (kept (l.task t) (rested l t h)) (taken_on plan l ok start op H t x)) (λ x. weigh_log (rested l (l.from t x) h) (taken_on plan l ok start op H t x)) (λ x k.
            let r = ok.input t x (chain_apart plan l ok start op H t a) k in
            weigh_log_same _ _ (λ y. cond_both ((l.task t).keeps y) (l.rest t y) (h y) ∙ ap (λ d. cond d (h y) 0) (sym (ok.filters (l.from t x) t y p r.0))) (taken_on plan l ok start op H t x)) in
            rw e (omega (arith, o, f, i, g)))
      ]

  -- what the other windows own weighs nothing
  w_other : (t v : ℕ) → t < l.before → l.before ≤ v → v < suc l.sink → (v ≡ u → ⊥) → w t v ≡ 0
  unfolding w
  w_other t v p qv k ne =
      elim (cases_Bool (l.ring t v)) [
        | inr e ↦ rw e refl
        | inl e ↦ elim (cases_eq v l.sink) [
          | inl z ↦ absurd (false≢true (sym (ok.before_sink t p) ∙ ap (l.ring t) (sym z) ∙ e))
          | inr z ↦
              let vm : v < l.sink = omega arith in
              let o = ok.ring_out t v e in
              let none : (r : Record) → Owns plan.window.key (l.task t).routing (l.out_at t v) r → rested l t h r ≡ 0 = λ r ow.
              let own = owned_of plan l ok t (l.out_at t v) r p o.0 (rw o.1 qv) ow ∙ o.1 in
              ap (λ x. cond (l.rest t r) x 0) (support r (λ a. ne (sym own ∙ a))) ∙ cond_same (l.rest t r) in
              rw e (sym (same t v p vm e) ∙ elim (kind plan l ok start op H t p) [
                | inl a ↦ (read_at plan l ok start op H t p a).owned (rested l t h) (l.out_at t v) o.0 none
                | inr a ↦ (relays_at plan l ok start op H t p a).owned (rested l t h) (l.out_at t v) o.0 none
              ])
        ]
      ]

  source_flow : (t : ℕ) → t < l.before → src t + read_weight l h (cut_of start) t ≡ read_weight l h (cut_of H.end) t
  unfolding src
  source_flow t p =
      elim (kind plan l ok start op H t p) [
        | inr a ↦ (let e = source_isnt (l.task t).role a in rw e refl)
        | inl a ↦
            (let e = source_is (l.task t).role a in
            let o = out_total t p in
            let f = (read_at plan l ok start op H t p a).flow (rested l t h) in
            let pass : (g : Record → ℕ) (n x : ℕ) → below (kept (l.task t) (rested l t h)) ((l.task t).entry x) n ≡ below (λ r. cond (l.pass r) (h r) 0) ((l.task t).entry x) n = λ g n x. total_same n _ _ (λ y k. weigh_message_same _ _ (λ r. cond_both ((l.task t).keeps r) (l.rest t r) (h r) ∙ ap (λ d. cond d (h r) 0) (ok.source_filter t r a p)) ((l.task t).entry x y)) in
            let f0 = total_same (l.task t).inputs (λ x. below (kept (l.task t) (rested l t h)) ((l.task t).entry x) (get_or (start t).offsets x 0)) (λ x. below (λ r. cond (l.pass r) (h r) 0) ((l.task t).entry x) (get_or (start t).offsets x 0)) (λ x k. pass h (get_or (start t).offsets x 0) x) in
            let f1 = total_same (l.task t).inputs (λ x. below (kept (l.task t) (rested l t h)) ((l.task t).entry x) (get_or (H.end t).offsets x 0)) (λ x. below (λ r. cond (l.pass r) (h r) 0) ((l.task t).entry x) (get_or (H.end t).offsets x 0)) (λ x k. pass h (get_or (H.end t).offsets x 0) x) in
            rw e (omega (arith, o, f, f0, f1)))
      ]

  -- the records taken weigh what the sources read
  pub arrives : weigh h (records (H.steps u)) + weigh h (records_until l (cut_of start)) ≡ weigh h (records_until l (cut_of H.end))
  unfolding w
  arrives =
      let ns : (l.task u).role ≡ Source → ⊥ = λ a. (let r = ok.roles_window u q m in cc) in
      let a = records_weigh plan (l.task u) (start u) h (H.run u) in
      let i = in_total u ns (omega arith) in
      let i' = total_same (l.task u).inputs (λ x. weigh_log (rested l (l.from u x) h) (taken_on plan l ok start op H u x)) (λ x. weigh_log h (taken_on plan l ok start op H u x)) (λ x k. let r = ok.input u x ns k in weigh_log_same _ _ (λ y. ap (λ d. cond d (h y) 0) (ok.last_filter (l.from u x) u y q m r.0)) (taken_on plan l ok start op H u x)) in
      let fr = total_front (suc l.sink) l.before (λ s. w s u) (omega arith) (λ k x y. w_none k u (elim (cases_Bool (l.ring k u)) [ inr e ↦ e | inl e ↦ absurd (let z = sender_before plan l ok start op H k u m e in omega arith) ])) in
      let fl = flow (suc l.sink) l.before u w src q (omega arith) (λ s t p x y. w_none s t (elim (cases_Bool (l.ring s t)) [ inr e ↦ e | inl e ↦ absurd (let z = ok.forward s t e in omega arith) ])) w_other kept_flow in
      let s0 = input_weight l h (cut_of start) in
      let s1 = input_weight l h (cut_of H.end) in
      let ad = total_add l.before src (read_weight l h (cut_of start)) in
      let sf = total_same l.before (λ t. src t + read_weight l h (cut_of start) t) (read_weight l h (cut_of H.end)) source_flow in
      omega (arith, a, i, i', fr, fl, s0, s1, ad, sf)
