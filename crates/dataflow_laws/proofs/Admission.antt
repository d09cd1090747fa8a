-- What stands on a ring is admitted by its receiver.
use Rattle.std.proofs.Common.{◌≡◌, ℕ, ◌+◌, ◌<◌, ◌≤◌, List, [], ◌∷◌, ◌++◌, true, false, refl, sym, ap, subst, ◌∙◌, inl, inr, arith, append_assoc, if◌then◌else◌}
use Rattle.std.specs.List.{AllByRecursion}
use Rattle.std.proofs.lemmas.Bool.{cases_eq, cases_Bool, cases_lt, false≢true}
use Rattle.plan_model.specs.PlanData.{PlanData}
use Rattle.dataflow_model.specs.declared.message.Message.{Message}
use Rattle.dataflow_model.specs.declared.message.Message.TheVariants.{Rows, Fired, Watermark, Barrier, End}
use Rattle.dataflow_model.specs.declared.role.Role.{Role}
use Rattle.dataflow_model.specs.declared.role.Role.TheVariants.{Source, Chain, Window, Sink}
use Rattle.dataflow_model.specs.Role.{is_source, is_window, takes_rows, takes_fired}
use Rattle.dataflow_model.specs.Ending.{may_stop}
use Rattle.dataflow_model.specs.AbstractTask.{AbstractTask}
use Rattle.dataflow_model.specs.AbstractLayout.{AbstractLayout, IsLayout}
use Rattle.dataflow_model.specs.State.{State}
use Rattle.dataflow_model.specs.Steps.{CanTake, Admits, barriers}
use Rattle.dataflow_model.specs.Runs.{taken, sent, only, given}
use Rattle.dataflow_model.specs.History.{History}
use Rattle.dataflow_model.proofs.Facts.{onto_ahead, no_source, source_yes}
use Rattle.dataflow_laws.specs.World.{World, IsEnd}
use Rattle.dataflow_model.specs.Start.{IsLegStart}
use Rattle.dataflow_laws.specs.Admission.{IsAdmittedInput, RingsAreAdmitted}
use Rattle.dataflow_laws.proofs.Worlds.{Behind, behind_end}
use Rattle.dataflow_laws.proofs.Opened.{fresh}
use Rattle.dataflow_laws.proofs.Reading.{Reading}
use Rattle.dataflow_laws.proofs.Counts.{has_limits, reading_starts, reading_at, with_message}
use Rattle.dataflow_laws.proofs.Marks.{passed, passed_append, IsNumber, Numbered}
use Rattle.dataflow_laws.proofs.Aligning.{Ins, ins, free_at}
use Rattle.dataflow_laws.proofs.Sending.{sends_rows, Gives, Sound, Outs, outs}

all_part : (P : Message → Type 0) (xs : List Message) (m : Message) (ys : List Message) → AllByRecursion P (xs ++ m ∷ ys) → P m
all_part P [] m ys a = a.0
all_part P (x ∷ xs) m ys a = all_part P xs m ys a.1

number_part : (f : ℕ) (xs : List Message) (m : Message) (ys : List Message) → Numbered f (xs ++ m ∷ ys) → IsNumber f m (passed ys)
number_part f [] m ys a = a.0
number_part f (x ∷ xs) m ys a = number_part f xs m ys a.1

barriers_same : (k k' : AbstractTask) → k.saves ≡ k'.saves → k.ending ≡ k'.ending → barriers k ≡ barriers k'
barriers_same k k' s e = λ i. s i + (if may_stop (e i) then 1 else 0)

-- only sources and chains send rows, and only windows fired ones
rows_early : (r : Role) → sends_rows r ≡ true → (r ≡ Window → ⊥) × (r ≡ Sink → ⊥)
rows_early r e = (λ a. (let b = sym (ap sends_rows a) ∙ e in cc), λ a. (let b = sym (ap sends_rows a) ∙ e in cc))

fired_late : (r : Role) → is_window r ≡ true → r ≡ Window
fired_late Source e = absurd cc
fired_late Chain e = absurd cc
fired_late Window e = refl
fired_late Sink e = absurd cc

pub source_before : (l : AbstractLayout) → IsLayout l → (t : ℕ) → t ≤ l.sink → (l.task t).role ≡ Source → t < l.before
source_before l ok t m a = elim (cases_lt t l.before) [
  | inl q ↦ q
  | inr q ↦ absurd (elim (cases_eq t l.sink) [
    | inl e ↦ (let y = ap (λ c. (l.task c).role) e ∙ ok.role_sink in cc)
    | inr ne ↦ (let y = ok.roles_window t q (omega (arith, m, ne)) in cc)
  ])
]

pub window_outputs : (l : AbstractLayout) → IsLayout l → (t : ℕ) → t ≤ l.sink → (l.task t).role ≡ Window → 0 < (l.task t).outputs
window_outputs l ok t m a = elim (cases_lt t l.before) [
  | inl q ↦ ok.some_output t q
  | inr q ↦ elim (cases_eq t l.sink) [
    | inl e ↦ absurd (let z = ok.role_sink in let y : (l.task t).role ≡ Sink = ap (λ y. (l.task y).role) e ∙ z in cc)
    | inr ne ↦ (let o = (ok.window_out t q (omega (arith, m, ne))).0 in omega (arith, o))
  ]
]

module _ (p : PlanData) (l : AbstractLayout) (start : ℕ → State) (w : World) (ok : IsLayout l) (b : IsLegStart p l start) (input : IsAdmittedInput p l) (r : IsEnd p l start w) where
  abbrev pub steps : Behind p l start w
  steps = behind_end p l start w r

  abbrev history : History p l start
  history = record { steps = steps.steps; end = w.tasks; run = steps.run; holds = w.rings; rings = steps.rings }

  sound : (t : ℕ) → t ≤ l.sink → Sound p (l.task t) (start t)
  sound t m = record {
    fresh = fresh p (l.task t).role (l.task t) (start t) (b.opens t m);
    windows = window_outputs l ok t m;
    some = λ e. ok.some_input t (no_source (l.task t) e) m;
    limits = λ a. has_limits p l start b t (source_before l ok t m a) a;
    begins = λ a. reading_starts p l start ok b t (source_before l ok t m a) a;
    entries = λ a q n x y. input.entries t q n (source_before l ok t m a) a x y;
  }

  pub outs_of : (t : ℕ) → t ≤ l.sink → Outs p (l.task t) (steps.steps t) (w.tasks t)
  outs_of t m = outs p (l.task t) (start t) (sound t m) (steps.run t)

  pub ins_of : (t : ℕ) → t ≤ l.sink → is_source (l.task t).role ≡ false → Ins (l.task t) (steps.steps t) (w.tasks t)
  ins_of t m e = let s = sound t m in ins p (l.task t) (start t) e (s.some e) s.fresh (steps.run t)

  pub reading_of : (t : ℕ) → t ≤ l.sink → (l.task t).role ≡ Source → Reading (l.task t) (w.tasks t)
  reading_of t m a = reading_at p l start ok b t (source_before l ok t m a) a (steps.run t)

  -- tasks of one leg
  pub same_first : (s t : ℕ) → s ≤ l.sink → t ≤ l.sink → (l.task s).first ≡ (l.task t).first
  same_first s t m n = (b.leg.alike s m).0 ∙ sym (b.leg.alike t n).0

  pub same_saves : (s t : ℕ) → s ≤ l.sink → t ≤ l.sink → (l.task s).saves ≡ (l.task t).saves
  same_saves s t m n = (b.leg.alike s m).1 ∙ sym (b.leg.alike t n).1

  pub same_stop : (s t : ℕ) → s ≤ l.sink → t ≤ l.sink → may_stop (l.task s).ending ≡ may_stop (l.task t).ending
  same_stop s t m n = ap may_stop ((b.leg.alike s m).2 ∙ sym (b.leg.alike t n).2)

  -- the ends of a ring
  pub ring_ends : (s t : ℕ) → l.ring s t ≡ true → (s ≤ l.sink) × (t ≤ l.sink)
  ring_ends s t rg = let o = ok.ring_out s t rg in let x = (ok.output s (l.out_at s t) o.0).2 in let f = ok.forward s t rg in let e = o.1 in (omega (arith, x, f, e), omega (arith, x, e))

  pub takes_in : (s t : ℕ) → l.ring s t ≡ true → is_source (l.task t).role ≡ false
  takes_in s t rg = elim (cases_Bool (is_source (l.task t).role)) [ inr e ↦ e | inl e ↦ absurd (false≢true (sym (ok.no_ring_in s t (source_yes (l.task t).role e)) ∙ rg)) ]

  -- what was given to a ring stands above the oldest message there, and that above what was taken
  above : (s t : ℕ) (rest : List Message) (m : Message) → l.ring s t ≡ true → w.rings s t ≡ rest ++ m ∷ [] → (x : List Message) × (given (l.out_at s t) (steps.steps s) (w.tasks s) ≡ x ++ m ∷ taken (l.in_at s t) (steps.steps t))
  above s t rest m rg e =
      let y = onto_ahead (only (l.out_at s t) (w.tasks s).pending) (sent (l.out_at s t) (steps.steps s)) in
      let log = taken (l.in_at s t) (steps.steps t) in
      (y.0 ++ rest, y.1 ∙ ap (λ q. y.0 ++ q) (steps.rings s t rg ∙ ap (λ q. q ++ log) e ∙ append_assoc rest (m ∷ []) log) ∙ sym (append_assoc y.0 rest (m ∷ log)))

  rows_taken : (s t : ℕ) → l.ring s t ≡ true → sends_rows (l.task s).role ≡ true → (t < l.sink) × (takes_rows (l.task t).role ≡ true)
  rows_taken s t rg e =
      let en = ring_ends s t rg in
      let early = rows_early (l.task s).role e in
      let fw = ok.forward s t rg in
      let sb : s < l.before = elim (cases_lt s l.before) [ inl q ↦ q | inr q ↦ absurd (early.0 (ok.roles_window s q (let z = en.1 in omega (arith, fw, z)))) ] in
      let ts : t < l.sink = elim (cases_eq t l.sink) [ inr ne ↦ (let z = en.1 in omega (arith, z, ne)) | inl q ↦ absurd (false≢true (sym (ok.before_sink s sb) ∙ ap (l.ring s) (sym q) ∙ rg)) ] in (
        ts,
        elim (cases_lt t l.before) [
          | inl q ↦ ap takes_rows (ok.roles_before t q (no_source (l.task t) (takes_in s t rg)))
          | inr q ↦ ap takes_rows (ok.roles_window t q ts)
        ],
      )

  fired_taken : (s t : ℕ) → l.ring s t ≡ true → is_window (l.task s).role ≡ true → takes_fired (l.task t).role ≡ true
  fired_taken s t rg e =
      let en = ring_ends s t rg in
      let fw = ok.forward s t rg in
      let role = fired_late (l.task s).role e in
      let sb : l.before ≤ s = elim (cases_lt s l.before) [
        | inr q ↦ q
        | inl q ↦ absurd (elim (cases_Bool (is_source (l.task s).role)) [
          | inl z ↦ (let y = source_yes (l.task s).role z in cc)
          | inr z ↦ (let y = ok.roles_before s q (no_source (l.task s) z) in cc)
        ])
      ] in
      elim (cases_eq t l.sink) [
        | inl q ↦ ap (λ x. takes_fired (l.task x).role) q ∙ ap takes_fired ok.role_sink
        | inr ne ↦ absurd (false≢true (sym (ok.window_only s t sb (let z = en.1 in omega (arith, fw, z)) (let z = en.1 in omega (arith, z, ne))) ∙ rg))
      ]

  pub admitted : (s t : ℕ) (rest : List Message) (m : Message) → l.ring s t ≡ true → w.rings s t ≡ rest ++ m ∷ [] → CanTake (l.task t) (w.tasks t) (l.in_at s t) → Admits p (l.task t) (w.tasks t) m
  admitted s t rest (Rows x) rg e can =
      let en = ring_ends s t rg in
      let a = above s t rest (Rows x) rg e in
      let g = all_part (Gives p (l.task s).role) a.0 (Rows x) (taken (l.in_at s t) (steps.steps t)) (subst (AllByRecursion (Gives p (l.task s).role)) a.1 ((outs_of s en.0).gives (l.out_at s t) (ok.ring_out s t rg).0)) in
      let y = rows_taken s t rg g.0 in
      let c = with_message p l ok start b history s t rest (Rows x) y.0 rg e in
      let few = input.few in
      (y.1, g.1.0, g.1.1, omega (arith, c, few))
  admitted s t rest (Fired rows) rg e can =
      let en = ring_ends s t rg in
      let a = above s t rest (Fired rows) rg e in
      let g = all_part (Gives p (l.task s).role) a.0 (Fired rows) (taken (l.in_at s t) (steps.steps t)) (subst (AllByRecursion (Gives p (l.task s).role)) a.1 ((outs_of s en.0).gives (l.out_at s t) (ok.ring_out s t rg).0)) in
      fired_taken s t rg g
  admitted s t rest (Watermark x) rg e can = tt
  admitted s t rest (Barrier n) rg e can =
      let en = ring_ends s t rg in
      let log = taken (l.in_at s t) (steps.steps t) in
      let a = above s t rest (Barrier n) rg e in
      let o = outs_of s en.0 in
      let j = l.out_at s t in
      let jl = (ok.ring_out s t rg).0 in
      let i = ins_of t en.1 (takes_in s t rg) in
      let f : passed log ≡ (w.tasks t).next = (free_at (l.task t) (steps.steps t) (w.tasks t) (l.in_at s t) can i).0 in
      let n_is : n ≡ (l.task s).first + passed log = number_part (l.task s).first a.0 (Barrier n) log (subst (Numbered (l.task s).first) a.1 (o.numbered j jl)) in
      let first = same_first s t en.0 en.1 in
      let ps = sym (o.passes j jl) ∙ ap passed a.1 ∙ passed_append a.0 (Barrier n ∷ log) in
      let lim = o.limit in
      let bs = barriers_same (l.task s) (l.task t) (same_saves s t en.0 en.1) ((b.leg.alike s en.0).2 ∙ sym (b.leg.alike t en.1).2) in
      (omega (arith, f, n_is, first), omega (arith, ps, f, lim, bs))
  admitted s t rest End rg e can = tt

pub rings_are_admitted : RingsAreAdmitted
rings_are_admitted p l start w ok b input r s t rest m rg e can = admitted p l start w ok b input r s t rest m rg e can
