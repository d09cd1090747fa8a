-- The small leg meets what the laws of legs ask for.
use Rattle.std.proofs.Common.{◌≡◌, ℕ, zero, suc, ◌<◌, ◌≤◌, ℤ, ◌≤ℤ◌, ◌<ℤ◌, ◌∙◌, inl, inr, None, pos, [], ◌∷◌, true, false, ◌&&◌, get_or, replicate, refl, sym, subst, arith}
use Rattle.std.specs.FinMap.{empty, get-empty}
use Rattle.std.proofs.lemmas.Bool.{eqb-true, cases_Bool}
use Rattle.std.specs.Int.{int_max}
use Rattle.std.specs.List.{All}
use Rattle.std.proofs.lemmas.Int.{ints}
use Rattle.std.proofs.lemmas.List.Elements.{All-nil, All-cons}
use Rattle.plain_data.specs.Record.{Record, at}
use Rattle.plain_data.specs.Times.{lowest}
use Rattle.plan_model.specs.PlanData.{PlanData}
use Rattle.plan_model.specs.Windows.{IsTime, is_start}
use Rattle.plan_model.specs.Rows.{pane_cmp, is_due}
use Rattle.plan_model.specs.declared.spec.Pane.{Pane}
use Rattle.dataflow_model.specs.declared.role.Role.TheVariants.{Source, Chain, Window}
use Rattle.dataflow_model.specs.declared.ending.Ending.TheVariants.{AtCut}
use Rattle.dataflow_model.specs.AbstractLayout.{AbstractLayout, IsLayout, Sends}
use Rattle.dataflow_model.specs.Message.{records_of}
use Rattle.dataflow_model.specs.Cuts.{AreOrderlySources, cut_of, snapshot_until}
use Rattle.dataflow_model.specs.Snapshots.{AtOwners}
use Rattle.dataflow_model.specs.Start.{AreOpenings, IsStart}
use Rattle.dataflow_model.specs.OneLeg.{IsOneLeg}
use Rattle.dataflow_laws.specs.Admission.{FitsPlan}
use Rattle.dataflow_laws.specs.Example.{small_entry, small_brings, small_watermark, small_ring, small_from, small_layout, small_start, SmallLeg}

ring_leads : (s t : ℕ) → small_ring s t ≡ true → (t ≡ suc s) × (s < 2)
ring_leads zero t e = (eqb-true t 1 e, omega arith)
ring_leads (suc zero) t e = (eqb-true t 2 e, omega arith)
ring_leads (suc (suc s)) t e = absurd cc

module _ (p : PlanData) where
  abbrev L : AbstractLayout
  L = small_layout p

  roles_before : (t : ℕ) → t < 1 → ((L.task t).role ≡ Source → ⊥) → (L.task t).role ≡ Chain
  roles_before zero l ns = absurd (ns refl)
  roles_before (suc t) l ns = absurd (omega (arith, l))

  roles_window : (t : ℕ) → 1 ≤ t → t < 2 → (L.task t).role ≡ Window
  roles_window zero a c = absurd (omega (arith, a))
  roles_window (suc zero) a c = refl
  roles_window (suc (suc t)) a c = absurd (omega (arith, c))

  no_ring_in : (s t : ℕ) → (L.task t).role ≡ Source → small_ring s t ≡ false
  no_ring_in zero zero a = refl
  no_ring_in (suc zero) zero a = refl
  no_ring_in (suc (suc s)) zero a = refl
  no_ring_in s (suc zero) a = absurd cc
  no_ring_in s (suc (suc t)) a = absurd cc

  input : (t i : ℕ) → ((L.task t).role ≡ Source → ⊥) → i < (L.task t).inputs → (small_ring (small_from t) t ≡ true) × (0 ≡ i)
  input zero i ns l = absurd (ns refl)
  input (suc zero) i ns l = (refl, omega (arith, l))
  input (suc (suc zero)) i ns l = (refl, omega (arith, l))
  input (suc (suc (suc t))) i ns l = absurd (omega (arith, l))

  output : (s j : ℕ) → j < (L.task s).outputs → (small_ring s (suc s) ≡ true) × (0 ≡ j) × (suc s ≤ 2)
  output zero j l = (refl, omega (arith, l), omega arith)
  output (suc zero) j l = (refl, omega (arith, l), omega arith)
  output (suc (suc s)) j l = absurd (omega (arith, l))

  has_input : (s : ℕ) → s < 2 → 0 < (L.task (suc s)).inputs
  has_input zero l = omega arith
  has_input (suc zero) l = omega arith
  has_input (suc (suc s)) l = absurd (omega (arith, l))

  has_output : (s : ℕ) → s < 2 → 0 < (L.task s).outputs
  has_output zero l = omega arith
  has_output (suc zero) l = omega arith
  has_output (suc (suc s)) l = absurd (omega (arith, l))

  ring_in : (s t : ℕ) → small_ring s t ≡ true → (0 < (L.task t).inputs) × (small_from t ≡ s)
  ring_in s t e = let r = ring_leads s t e in subst (λ x. (0 < (L.task x).inputs) × (small_from x ≡ s)) (sym r.0) (has_input s r.1, refl)

  some_input : (t : ℕ) → ((L.task t).role ≡ Source → ⊥) → t ≤ 2 → 0 < (L.task t).inputs
  some_input zero ns l = absurd (ns refl)
  some_input (suc t) ns l = has_input t (omega (arith, l))

  before_sink : (t : ℕ) → t < 1 → small_ring t 2 ≡ false
  before_sink zero l = refl
  before_sink (suc t) l = absurd (omega (arith, l))

  window_out : (t : ℕ) → 1 ≤ t → t < 2 → ((L.task t).outputs ≡ 1) × (small_ring t 2 ≡ true)
  window_out zero a c = absurd (omega (arith, a))
  window_out (suc zero) a c = (refl, refl)
  window_out (suc (suc t)) a c = absurd (omega (arith, c))

  window_only : (t u : ℕ) → 1 ≤ t → t < 2 → u < 2 → small_ring t u ≡ false
  window_only zero u a c l = absurd (omega (arith, a))
  window_only (suc zero) zero a c l = refl
  window_only (suc zero) (suc zero) a c l = refl
  window_only (suc zero) (suc (suc u)) a c l = absurd (omega (arith, l))
  window_only (suc (suc t)) u a c l = absurd (omega (arith, c))

  source_filter : (t : ℕ) (r : Record) → (L.task t).role ≡ Source → t < 1 → (L.task t).keeps r ≡ true
  source_filter zero r a l = refl
  source_filter (suc t) r a l = absurd (omega (arith, l))

  is_layout : IsLayout L
  is_layout = record {
    some_windows = omega arith;
    roles_before = roles_before;
    roles_window = roles_window;
    role_sink = refl;
    forward = λ s t e. (let r = (ring_leads s t e).0 in omega (arith, r));
    no_ring_in = no_ring_in;
    input = input;
    output = output;
    ring_in = ring_in;
    ring_out = λ s t e. (let r = ring_leads s t e in (has_output s r.1, sym r.0));
    some_input = some_input;
    some_output = λ t l. has_output t (omega (arith, l));
    before_sink = before_sink;
    window_out = window_out;
    window_only = window_only;
    all_windows = λ t u v a c d f e. subst (λ x. small_ring t x ≡ true) (let z : u ≡ v = omega (arith, a, c, d, f) in z) e;
    sends = sends;
    owner_window = λ key. (omega arith, omega arith);
    filters = λ s t r l e. sym (keeps_all t r l);
    last_filter = λ s t r a c e. refl;
    source_filter = λ t r a l. keeps_all t r l;
  }
    where
      keeps_all : (t : ℕ) (r : Record) → t < 1 → ((L.task t).keeps r && true) ≡ true
      keeps_all zero r l = refl
      keeps_all (suc t) r l = absurd (omega (arith, l))

      sends : (t : ℕ) → t < 1 → Sends L t (L.task t).routing
      sends zero l = λ key. (omega arith, refl)
      sends (suc t) l = absurd (omega (arith, l))

  alike : (t : ℕ) → ((L.task t).first ≡ 1) × ((L.task t).saves ≡ 1) × ((L.task t).ending ≡ AtCut)
  alike zero = (refl, refl, refl)
  alike (suc zero) = (refl, refl, refl)
  alike (suc (suc t)) = (refl, refl, refl)

  begins_within : (t q : ℕ) → t < 1 → q < (L.task t).inputs → get_or (small_start t).offsets q 0 ≤ (L.task t).limit 0 q
  begins_within zero zero l k = omega arith
  begins_within zero (suc q) l k = absurd (omega (arith, k))
  begins_within (suc t) q l k = absurd (omega (arith, l))

  limits_rise : (t m q : ℕ) → t < 1 → (L.task t).limit m q ≤ (L.task t).limit (suc m) q
  limits_rise zero zero q l = omega arith
  limits_rise zero (suc m) q l = omega arith
  limits_rise (suc t) m q l = absurd (omega (arith, l))

  ends_within : (t q : ℕ) → t < 1 → (L.task t).limit (L.task t).saves q ≤ (L.task t).size q
  ends_within zero q l = omega arith
  ends_within (suc t) q l = absurd (omega (arith, l))

  is_one_leg : IsOneLeg L small_start
  is_one_leg = record {
    alike = λ t l. alike t;
    from = λ t q l a k. begins_within t q l k;
    rises = λ t m q l a k h. limits_rise t m q l;
    within = λ t q l a k. ends_within t q l;
    whole = λ t q l a k no. absurd (no (alike t).2);
    asked = λ e. absurd cc;
  }

  opens : AreOpenings p L small_start
  opens zero l = record { offsets = 0 ∷ []; marks = lowest ∷ []; is = refl; length_offsets = refl; length_marks = refl; marked = marked }
    where
      marked : (q : ℕ) (d : ℤ) → q < 1 → get_or (lowest ∷ []) q d ≡ small_watermark (get_or (0 ∷ []) q 0)
      marked zero d k = refl
      marked (suc q) d k = absurd (omega (arith, k))
  opens (suc zero) l = (empty, refl, λ q d. get-empty pane_cmp q)
  opens (suc (suc t)) l = refl

  zeros : (n c : ℕ) → get_or (replicate n (pos 0)) c (pos 0) ≡ pos 0
  zeros zero c = refl
  zeros (suc n) zero = refl
  zeros (suc n) (suc c) = zeros n c

  zero_time : IsTime (pos 0)
  zero_time = refl

  admitted_entry : (n : ℕ) → FitsPlan p (small_entry p n)
  admitted_entry zero =
      let r = replicate p.columns (pos 0) in
      let P : Record → Type 0 = λ x. IsTime (at p.window.time x) in
      (refl, All-cons P r [] (subst IsTime (sym (zeros p.columns p.window.time)) zero_time) (All-nil P))
  admitted_entry (suc n) = tt

  entries : (t q n : ℕ) → t < 1 → FitsPlan p ((L.task t).entry q n)
  entries zero q n l = admitted_entry n
  entries (suc t) q n l = absurd (omega (arith, l))

  moves : (n : ℕ) → n < 2 → small_watermark (suc n) ≡ int_max (small_watermark n) (small_brings n)
  moves zero l = refl
  moves (suc zero) l = refl
  moves (suc (suc n)) l = absurd (omega (arith, l))

  bounded : (n : ℕ) → lowest ≤ℤ small_watermark n
  bounded zero = omega (arith, ints)
  bounded (suc zero) = omega (arith, ints)
  bounded (suc (suc n)) = omega (arith, ints)

  late : (n : ℕ) → n < 2 → All (λ r. small_watermark n <ℤ at p.window.time r) (records_of (small_entry p n))
  late zero l =
      let P : Record → Type 0 = λ x. lowest <ℤ at p.window.time x in
      All-cons P (replicate p.columns (pos 0)) [] (subst (λ z. lowest <ℤ z) (sym (zeros p.columns p.window.time)) (omega (arith, ints))) (All-nil P)
  late (suc zero) l = All-nil (λ x. lowest <ℤ at p.window.time x)
  late (suc (suc n)) l = absurd (omega (arith, l))

  is_orderly : AreOrderlySources p L
  is_orderly zero b a = record { moves = λ q n k l. moves n l; bounded = λ q n k l. bounded n; late = λ q n k l. late n l }
  is_orderly (suc t) b a = absurd (omega (arith, b))

  least_there : (t q : ℕ) → t < 1 → q < (L.task t).inputs → lowest ≤ℤ (L.task t).watermark q (cut_of small_start t q)
  least_there zero zero b k = omega (arith, ints)
  least_there zero (suc q) b k = absurd (omega (arith, k))
  least_there (suc t) q b k = absurd (omega (arith, b))

  -- nothing stands in a pane where nothing was read
  nothing : (q : Pane) → None ≡ snapshot_until p L (cut_of small_start) lowest q
  nothing q =
      elim (cases_Bool (is_due p.window lowest q.start)) [
        | inl e ↦ rw e refl
        | inr e ↦ rw e (elim (cases_Bool (is_start p.window q.start)) [ inl f ↦ rw f refl | inr f ↦ rw f refl ])
      ]

  windows : AtOwners L (λ u. (small_start u).windows) (snapshot_until p L (cut_of small_start) lowest)
  windows zero a b q = absurd (omega (arith, a))
  windows (suc zero) a b q = get-empty pane_cmp q ∙ nothing q
  windows (suc (suc u)) a b q = absurd (omega (arith, b))

  is_start_here : IsStart p L small_start lowest
  is_start_here = record {
    opens = opens;
    merged = record {
      bound = omega (arith, ints);
      below = λ t q b a k. least_there t q b k;
      greatest = λ v top h. h 0 0 (omega arith) refl (omega arith);
    };
    windows = windows;
  }

pub small_leg : SmallLeg
small_leg p = (is_layout p, record { opens = opens p; leg = is_one_leg p }, record { entries = λ t q n l a x y. entries p t q n l; few = omega arith }, is_orderly p, is_start_here p)
