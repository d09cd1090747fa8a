-- A reached world is the end of a consistent history.
use Rattle.std.proofs.Common.{◌≡◌, ℕ, ◌<◌, List, [], ◌∷◌, ◌++◌, true, cond, eqb, refl, sym, ap, subst, ◌∙◌, inl, inr, append_assoc, length, ◌≤◌, length-append, arith}
use Rattle.std.proofs.lemmas.Bool.{cases_eq, cases_Bool, eq-eqb, ne_eqb}
use Rattle.plan_model.specs.PlanData.{PlanData}
use Rattle.dataflow_model.specs.declared.message.Message.{Message}
use Rattle.dataflow_model.specs.declared.role.Role.TheVariants.{Source}
use Rattle.dataflow_model.specs.AbstractLayout.{AbstractLayout, IsLayout}
use Rattle.dataflow_model.specs.State.{State}
use Rattle.dataflow_model.specs.Steps.{Event, Open, Read, Save, Stop, Close, Take, Put, LocalStep}
use Rattle.dataflow_model.specs.Runs.{Run, taken, sent}
use Rattle.dataflow_model.specs.Runs.Run.{none, more}
use Rattle.dataflow_laws.specs.World.{World, with_task, with_ring, IsInner, Move, IsEnd, MovesKeepHistories, WorldsAreHistories, RingsAreBounded}
use Rattle.dataflow_laws.specs.World.Move.{inner, takes, puts}
use Rattle.dataflow_laws.specs.World.Reached.{begins, moves}
use Rattle.dataflow_laws.proofs.Needs.{step_needs}
use Rattle.dataflow_model.proofs.Facts.{no_source}

-- the lists of steps behind a world
pub record Behind (p : PlanData) (l : AbstractLayout) (start : ℕ → State) (w : World) : Type 0 where
  pub steps : ℕ → List Event
  pub run : (t : ℕ) → Run p (l.task t) (start t) (steps t) (w.tasks t)
  pub rings : (s t : ℕ) → l.ring s t ≡ true → sent (l.out_at s t) (steps s) ≡ w.rings s t ++ taken (l.in_at s t) (steps t)

-- lists of steps with one more at t
abbrev with_step : ℕ → Event → (ℕ → List Event) → ℕ → List Event
with_step t e steps u = cond (eqb u t) (e ∷ steps t) (steps u)

runs_at : (p : PlanData) (l : AbstractLayout) (start : ℕ → State) (steps : ℕ → List Event) (tasks : ℕ → State) (t : ℕ) (e : Event) (s : State) → ((k : ℕ) → Run p (l.task k) (start k) (steps k) (tasks k))
    → LocalStep p (l.task t) (tasks t) e s → (k : ℕ) → Run p (l.task k) (start k) (with_step t e steps k) (with_task t s tasks k)
runs_at p l start steps tasks t e s runs st k =
    elim (cases_eq k t) [
      | inl u ↦ (let d = eq-eqb k t u in rw d (subst (λ x. Run p (l.task x) (start x) (e ∷ steps t) s) (sym u) (more (runs t) st)))
      | inr u ↦ (let d = ne_eqb k t u in rw d (runs k))
    ]

sent_inner : (j : ℕ) (e : Event) (es : List Event) → IsInner e → sent j (e ∷ es) ≡ sent j es
sent_inner j Open es i = refl
sent_inner j (Read n) es i = refl
sent_inner j Save es i = refl
sent_inner j Stop es i = refl
sent_inner j Close es i = refl
sent_inner j (Take x m) es i = absurd i
sent_inner j (Put x m) es i = absurd i

taken_inner : (j : ℕ) (e : Event) (es : List Event) → IsInner e → taken j (e ∷ es) ≡ taken j es
taken_inner j Open es i = refl
taken_inner j (Read n) es i = refl
taken_inner j Save es i = refl
taken_inner j Stop es i = refl
taken_inner j Close es i = refl
taken_inner j (Take x m) es i = absurd i
taken_inner j (Put x m) es i = absurd i

-- a list of steps with one more at t that leaves f
at_same : (f : List Event → List Message) (steps : ℕ → List Event) (t : ℕ) (e : Event) → ((es : List Event) → f (e ∷ es) ≡ f es) → (k : ℕ) → f (with_step t e steps k) ≡ f (steps k)
at_same f steps t e h k =
    elim (cases_eq k t) [
      | inl u ↦ (let d = eq-eqb k t u in rw d (h (steps t) ∙ ap (λ x. f (steps x)) (sym u)))
      | inr u ↦ (let d = ne_eqb k t u in rw d refl)
    ]

module _ (p : PlanData) (l : AbstractLayout) (ok : IsLayout l) (capacity : ℕ) (start : ℕ → State) where
  behind_inner : (w : World) (t : ℕ) (e : Event) (s : State) → IsInner e → LocalStep p (l.task t) (w.tasks t) e s → Behind p l start w → Behind p l start (record w { tasks = with_task t s w.tasks })
  behind_inner w t e s i st r =
      record {
        steps = with_step t e r.steps;
        run = runs_at p l start r.steps w.tasks t e s r.run st;
        rings = λ x y q. at_same (sent (l.out_at x y)) r.steps t e (λ es. sent_inner (l.out_at x y) e es i) x ∙ r.rings x y q
            ∙ ap (λ z. w.rings x y ++ z) (sym (at_same (taken (l.in_at x y)) r.steps t e (λ es. taken_inner (l.in_at x y) e es i) y));
      }

  behind_takes : (w : World) (t i : ℕ) (m : Message) (s : State) (rest : List Message) → w.rings (l.from t i) t ≡ rest ++ m ∷ [] → LocalStep p (l.task t) (w.tasks t) (Take i m) s
      → i < (l.task t).inputs → ((l.task t).role ≡ Source → ⊥) → Behind p l start w → Behind p l start (record { tasks = with_task t s w.tasks; rings = with_ring (l.from t i) t rest w.rings })
  behind_takes w t i m s rest e st il ns r =
      record {
        steps = with_step t (Take i m) r.steps;
        run = runs_at p l start r.steps w.tasks t (Take i m) s r.run st;
        rings = λ x y q.
            at_same (sent (l.out_at x y)) r.steps t (Take i m) (λ es. refl) x ∙ r.rings x y q
            ∙ elim (cases_eq y t) [
              | inr u ↦ (let d = ne_eqb y t u in rw d (other_ring x y))
              | inl u ↦ subst (λ z. l.ring x z ≡ true → w.rings x z ++ taken (l.in_at x z) (r.steps z) ≡ with_ring (l.from t i) t rest w.rings x z ++ taken (l.in_at x z) (with_step t (Take i m) r.steps z)) (sym u) (λ q'. this x q') q
            ];
      }
    where
      other_ring : (x y : ℕ) → w.rings x y ++ taken (l.in_at x y) (r.steps y) ≡ cond (eqb x (l.from t i)) (w.rings x y) (w.rings x y) ++ taken (l.in_at x y) (r.steps y)
      other_ring x y = elim (cases_Bool (eqb x (l.from t i))) [ inl d ↦ rw d refl | inr d ↦ rw d refl ]

      this : (x : ℕ) → l.ring x t ≡ true → w.rings x t ++ taken (l.in_at x t) (r.steps t) ≡ with_ring (l.from t i) t rest w.rings x t ++ taken (l.in_at x t) (with_step t (Take i m) r.steps t)
      this x q =
          let dt = eq-eqb t t refl in
          elim (cases_eq x (l.from t i)) [
            | inl u ↦
                (let d = eq-eqb x (l.from t i) u in
                let a = ok.input t i ns il in
                let same : l.in_at x t ≡ i = ap (λ z. l.in_at z t) u ∙ a.1 in
                let dp = eq-eqb (l.in_at x t) i same in
                rw (d, dt, dp) (ap (λ z. z ++ taken (l.in_at x t) (r.steps t)) (ap (λ z. w.rings z t) u ∙ e) ∙ append_assoc rest (m ∷ []) (taken (l.in_at x t) (r.steps t))))
            | inr u ↦
                (let d = ne_eqb x (l.from t i) u in
                let other : l.in_at x t ≡ i → ⊥ = λ z. u (sym (ok.ring_in x t q).1 ∙ ap (l.from t) z) in
                let dp = ne_eqb (l.in_at x t) i other in
                rw (d, dt, dp) refl)
          ]

  behind_puts : (w : World) (t j : ℕ) (m : Message) (s : State) → j < (l.task t).outputs → LocalStep p (l.task t) (w.tasks t) (Put j m) s
      → Behind p l start w → Behind p l start (record { tasks = with_task t s w.tasks; rings = with_ring t (l.to t j) (m ∷ w.rings t (l.to t j)) w.rings })
  behind_puts w t j m s jl st r =
      record {
        steps = with_step t (Put j m) r.steps;
        run = runs_at p l start r.steps w.tasks t (Put j m) s r.run st;
        rings = λ x y q.
            elim (cases_eq x t) [
              | inr u ↦ (let d = ne_eqb x t u in rw d (r.rings x y q))
              | inl u ↦ subst (λ z. l.ring z y ≡ true → sent (l.out_at z y) (with_step t (Put j m) r.steps z) ≡ with_ring t (l.to t j) (m ∷ w.rings t (l.to t j)) w.rings z y ++ taken (l.in_at z y) (r.steps y)) (sym u) (λ q'. this y q') q
            ]
            ∙ ap (λ z. with_ring t (l.to t j) (m ∷ w.rings t (l.to t j)) w.rings x y ++ z) (sym (at_same (taken (l.in_at x y)) r.steps t (Put j m) (λ es. refl) y));
      }
    where
      this : (y : ℕ) → l.ring t y ≡ true → sent (l.out_at t y) (with_step t (Put j m) r.steps t) ≡ with_ring t (l.to t j) (m ∷ w.rings t (l.to t j)) w.rings t y ++ taken (l.in_at t y) (r.steps y)
      this y q =
          let dt = eq-eqb t t refl in
          elim (cases_eq y (l.to t j)) [
            | inl u ↦
                (let d = eq-eqb y (l.to t j) u in
                let same : l.out_at t y ≡ j = ap (l.out_at t) u ∙ (ok.output t j jl).1 in
                let dp = eq-eqb (l.out_at t y) j same in
                rw (dt, dp, d) (ap (λ z. m ∷ z) (r.rings t y q ∙ ap (λ z. w.rings t z ++ taken (l.in_at t y) (r.steps y)) u)))
            | inr u ↦
                (let d = ne_eqb y (l.to t j) u in
                let other : l.out_at t y ≡ j → ⊥ = λ z. u (sym (ok.ring_out t y q).1 ∙ ap (l.to t) z) in
                let dp = ne_eqb (l.out_at t y) j other in
                rw (dt, dp, d) (r.rings t y q))
          ]

  behind_move : (w : World) (t : ℕ) (e : Event) (w' : World) → Move p l capacity w t e w' → Behind p l start w → Behind p l start w'
  behind_move w t e w' (inner {s = s} b i st) r = behind_inner w t e s i st r
  behind_move w t e w' (takes {i = i} {m = m} {s = s} b rest q st) r =
      let needs = step_needs p (l.task t) (w.tasks t) (Take i m) s st in
      behind_takes w t i m s rest q st needs.can.input (no_source (l.task t) needs.can.taker) r
  behind_move w t e w' (puts {j = j} {m = m} {s = s} b lim jl st) r = behind_puts w t j m s jl st r

pub behind_end : (p : PlanData) (l : AbstractLayout) (start : ℕ → State) (w : World) → IsEnd p l start w → Behind p l start w
behind_end p l start w (h, e) = record {
  steps = h.steps;
  run = λ t. subst (λ (tasks : ℕ → State). Run p (l.task t) (start t) (h.steps t) (tasks t)) e.tasks (h.run t);
  rings = λ s t q. subst (λ (rings : ℕ → ℕ → List Message). sent (l.out_at s t) (h.steps s) ≡ rings s t ++ taken (l.in_at s t) (h.steps t)) e.rings (h.rings s t q);
}

end_of : (p : PlanData) (l : AbstractLayout) (start : ℕ → State) (w : World) → Behind p l start w → IsEnd p l start w
end_of p l start w x = (record { steps = x.steps; end = w.tasks; run = x.run; holds = w.rings; rings = x.rings }, record { tasks = refl; rings = refl })

pub moves_keep_histories : MovesKeepHistories
moves_keep_histories p l capacity start w t e w' ok x mv = end_of p l start w' (behind_move p l ok capacity start w t e w' mv (behind_end p l start w x))

pub worlds_are_histories : WorldsAreHistories
worlds_are_histories p l capacity start w ok begins = end_of p l start w (record { steps = λ t. []; run = λ t. none; rings = λ s t r. refl })
worlds_are_histories p l capacity start w ok (moves {w = v} {t = t} {e = e} r mv) = moves_keep_histories p l capacity start v t e w ok (worlds_are_histories p l capacity start v ok r) mv

-- rings with one more in which as many messages fit
ring_fits : (capacity : ℕ) (rings : ℕ → ℕ → List Message) (s t : ℕ) (log : List Message) → length log ≤ capacity → ((x y : ℕ) → length (rings x y) ≤ capacity) → (x y : ℕ) → length (with_ring s t log rings x y) ≤ capacity
ring_fits capacity rings s t log here there x y = elim (cases_Bool (eqb x s)) [
  | inr e ↦ rw e (there x y)
  | inl e ↦ elim (cases_Bool (eqb y t)) [
    | inr f ↦ rw (e, f) (there x y)
    | inl f ↦ rw (e, f) here
  ]
]

fits_move : (p : PlanData) (l : AbstractLayout) (capacity : ℕ) (w : World) (t : ℕ) (e : Event) (w' : World) → Move p l capacity w t e w' → ((x y : ℕ) → length (w.rings x y) ≤ capacity) → (x y : ℕ) → length (w'.rings x y) ≤ capacity
fits_move p l capacity w t e w' (inner b i st) h = h
fits_move p l capacity w t e w' (takes {i = i} {m = m} b rest q st) h =
    ring_fits capacity w.rings (l.from t i) t rest (let z = h (l.from t i) t in let y = ap length q ∙ length-append rest (m ∷ []) in omega (arith, z, y)) h
fits_move p l capacity w t e w' (puts {j = j} {m = m} b lim jl st) h = ring_fits capacity w.rings t (l.to t j) (m ∷ w.rings t (l.to t j)) (omega (arith, lim)) h

pub rings_are_bounded : RingsAreBounded
rings_are_bounded p l capacity start w begins s t = omega arith
rings_are_bounded p l capacity start w (moves {w = v} {t = u} {e = e} r mv) s t = fits_move p l capacity v u e w mv (λ x y. rings_are_bounded p l capacity start v r x y) s t
