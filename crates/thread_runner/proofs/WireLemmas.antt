-- What holds of the rows of a table once one of them grew, and of the wiring of edges one after another.
use Rattle.std.proofs.Common.{◌≡◌, ℕ, zero, suc, ◌+◌, ◌==◌, ◌<◌, ◌≤◌, Bool, true, false, cond, List, [], ◌∷◌, ◌++◌, map, length, get_or, set, take, Some, refl, sym, ap, subst, ◌∙◌, arith, inl, inr, All, get_or-set_same, get_or-set_other}
use Rattle.std.specs.List.{slice_get}
use Rattle.std.proofs.lemmas.Bool.{cases_lt, cases_Bool, eq-eqb, ne_eqb, false≢true}
use Rattle.std.proofs.lemmas.Bool.Decides.{eqb_tells}
use Rattle.std.proofs.lemmas.List.{append-nil, map-append, map-set, length-map, length-append, get_or-map, take_more}
use Rattle.std.proofs.lemmas.Option.{none-some}
use Rattle.std.proofs.Math.Seq.{map-set_same}
use Rattle.dataflow_model.specs.declared.message.Message.{Message}
use Rattle.layout_rules.specs.declared.stage.Stage.{Stage}
use Rattle.layout_rules.specs.Below.{count_below}
use Rattle.layout_rules.specs.Stages.{task_count, is_ring, outputs_of}
use Rattle.thread_runner.specs.declared.jobs.Job.{Job}
use Rattle.thread_runner.specs.declared.ends.Sender.{Sender}
use Rattle.thread_runner.specs.declared.ends.Receiver.{Receiver}
use Rattle.thread_runner.specs.Rings.{RingName, ring_of, ring_at, put_of, taken_of}
use Rattle.thread_runner.specs.Edges.{job_outs, job_ins, job_puts, job_takes, job_task, out_to, in_place, IsEdge, HasEdges, HasRings, Joins}
use Rattle.thread_runner.specs.Legs.{IsBare, GivesSender, GivesReceiver, met, Wiring}

-- the rows of a table, once one of them grew at its end
end_set : {A B : Type 0} (f : A → List B) (xs : List A) (i k : ℕ) (y d : A) (zs : List B) → i < length xs → f y ≡ f (get_or xs i d) ++ zs
    → get_or (map f (set xs i y)) k [] ≡ get_or (map f xs) k [] ++ cond (k == i) zs []
end_set {A} {B} f xs i k y d zs lt e =
    rw (map-set f xs i y) (elim (eqb_tells k i) [
      | inl h ↦
          rw (h.0, h.1, get_or-set_same (map f xs) i (f y) [] (rw (length-map xs f) lt), get_or-map f xs i d [] lt) e
      | inr h ↦
          rw (h.0, get_or-set_other (map f xs) i k (f y) [] h.1) (sym (append-nil (get_or (map f xs) k [])))
    ])

get_grown : {A : Type 0} (xs ys : List A) (i : ℕ) (x : A) → slice_get xs i ≡ Some x → slice_get (xs ++ ys) i ≡ Some x
get_grown [] ys i x e = absurd (none-some x e)
get_grown (z ∷ xs) ys zero x e = e
get_grown (z ∷ xs) ys (suc i) x e = get_grown xs ys i x e

get_end : {A : Type 0} (xs : List A) (x : A) → slice_get (xs ++ x ∷ []) (length xs) ≡ Some x
get_end [] x = refl
get_end (z ∷ xs) x = get_end xs x

fresh_end : (xs : List (List Message)) → ((o : ℕ) → get_or xs o [] ≡ []) → (o : ℕ) → get_or (xs ++ [] ∷ []) o [] ≡ []
fresh_end [] h zero = refl
fresh_end [] h (suc o) = refl
fresh_end (x ∷ xs) h zero = h 0
fresh_end (x ∷ xs) h (suc o) = fresh_end xs (λ k. h (suc k)) o

fresh_cond : (xs : List (List Message)) (b : Bool) → ((o : ℕ) → get_or xs o [] ≡ []) → (o : ℕ) → get_or (xs ++ cond b ([] ∷ []) []) o [] ≡ []
fresh_cond xs true h o = fresh_end xs h o
fresh_cond xs false h o = ap (λ l. get_or l o []) (append-nil xs) ∙ h o

length_cond : {A : Type 0} (xs : List A) (x : A) (b : Bool) → length (xs ++ cond b (x ∷ []) []) ≡ length xs + cond b 1 0
length_cond xs x true = length-append xs (x ∷ [])
length_cond xs x false = length-append xs []

pub gives_sender : (js : List Job) (i : ℕ) (d new : Job) (s : Sender) → i < length js
    → new.outputs.items ≡ (get_or js i d).outputs.items ++ s ∷ [] → new.inputs.items ≡ (get_or js i d).inputs.items → new.task ≡ (get_or js i d).task
    → GivesSender js (set js i new) i (ring_of s) (put_of s)
gives_sender js i d new s lt outs ins task = record {
  outs = λ t. end_set job_outs js i t new d (ring_of s ∷ []) lt (ap (map ring_of) outs ∙ map-append ring_of (get_or js i d).outputs.items (s ∷ []));
  puts = λ t. end_set job_puts js i t new d (put_of s ∷ []) lt (ap (map put_of) outs ∙ map-append put_of (get_or js i d).outputs.items (s ∷ []));
  ins = map-set_same job_ins js i new d (ap (map ring_at) ins);
  takes = map-set_same job_takes js i new d (ap (map taken_of) ins);
  tasks = map-set_same job_task js i new d task;
}

pub gives_receiver : (js : List Job) (i : ℕ) (d new : Job) (r : Receiver) → i < length js
    → new.inputs.items ≡ (get_or js i d).inputs.items ++ r ∷ [] → new.outputs.items ≡ (get_or js i d).outputs.items → new.task ≡ (get_or js i d).task
    → GivesReceiver js (set js i new) i (ring_at r) (taken_of r)
gives_receiver js i d new r lt ins outs task = record {
  ins = λ t. end_set job_ins js i t new d (ring_at r ∷ []) lt (ap (map ring_at) ins ∙ map-append ring_at (get_or js i d).inputs.items (r ∷ []));
  takes = λ t. end_set job_takes js i t new d (taken_of r ∷ []) lt (ap (map taken_of) ins ∙ map-append taken_of (get_or js i d).inputs.items (r ∷ []));
  outs = map-set_same job_outs js i new d (ap (map ring_of) outs);
  puts = map-set_same job_puts js i new d (ap (map put_of) outs);
  tasks = map-set_same job_task js i new d task;
}

bare_outs : {B : Type 0} (f : Sender → B) (js : List Job) → All IsBare js → (t : ℕ) → get_or (map (λ (j : Job). map f j.outputs.items) js) t [] ≡ []
bare_outs f [] bare t = refl
bare_outs f (j ∷ js) bare zero = let b = bare 0 j (omega arith) in rw b.0 refl
bare_outs f (j ∷ js) bare (suc t) = bare_outs f js (λ k d l. bare (suc k) d (omega (arith, l))) t

bare_ins : {B : Type 0} (f : Receiver → B) (js : List Job) → All IsBare js → (t : ℕ) → get_or (map (λ (j : Job). map f j.inputs.items) js) t [] ≡ []
bare_ins f [] bare t = refl
bare_ins f (j ∷ js) bare zero = let b = bare 0 j (omega arith) in rw b.1 refl
bare_ins f (j ∷ js) bare (suc t) = bare_ins f js (λ k d l. bare (suc k) d (omega (arith, l))) t

met_end : (t : ℕ) (xs : List ℕ) (x : ℕ) → met t (xs ++ x ∷ []) ≡ met t xs + cond (t == x) 1 0
met_end t [] x = omega arith
met_end t (y ∷ xs) x = omega (arith, met_end t xs x)

met_none : (t : ℕ) (xs : List ℕ) → ((i : ℕ) → i < length xs → get_or xs i 0 ≡ t → ⊥) → met t xs ≡ 0
met_none t [] h = refl
met_none t (x ∷ xs) h =
    let here : ◌≡◌ {A = ℕ} (cond (t == x) 1 0) 0 = ap (λ (v : Bool). cond v 1 0) (ne_eqb t x (λ e. h 0 (omega arith) (sym e))) in
    let rest = met_none t xs (λ i l e. h (suc i) (omega (arith, l)) e) in
    omega (arith, here, rest)

met_one : (t : ℕ) (xs : List ℕ) (i : ℕ) → i < length xs → get_or xs i 0 ≡ t → ((j : ℕ) → j < length xs → get_or xs j 0 ≡ t → j ≡ i) → met t xs ≡ 1
met_one t [] i l e h = absurd (omega (arith, l))
met_one t (x ∷ xs) zero l e h =
    let here : ◌≡◌ {A = ℕ} (cond (t == x) 1 0) 1 = ap (λ (v : Bool). cond v 1 0) (eq-eqb t x (sym e)) in
    let rest = met_none t xs (λ j k f. (let g = h (suc j) (omega (arith, k)) f in absurd (omega (arith, g)))) in
    omega (arith, here, rest)
met_one t (x ∷ xs) (suc i) l e h =
    let here : ◌≡◌ {A = ℕ} (cond (t == x) 1 0) 0 = ap (λ (v : Bool). cond v 1 0) (ne_eqb t x (λ f. (let g = h 0 (omega arith) (sym f) in absurd (omega (arith, g))))) in
    let rest = met_one t xs i (omega (arith, l)) e (λ j k f. (let g = h (suc j) (omega (arith, k)) f in omega (arith, g))) in
    omega (arith, here, rest)

pub wiring_none : (stages : List Stage) (js : List Job) → All IsBare js → Wiring stages js js 0 0
wiring_none stages js bare = record {
  fresh = record {
    no_put = λ t o. ap (λ l. get_or l o []) (bare_outs put_of js bare t);
    no_taken = λ t i. ap (λ l. get_or l i []) (bare_ins taken_of js bare t);
  };
  before = λ x y l. absurd (omega (arith, l));
  own = λ y l. absurd (omega (arith, l));
  here = ap length (bare_outs ring_of js bare 0);
  after = λ x l. ap length (bare_outs ring_of js bare x);
  ins = λ t. (let none = ap length (bare_ins ring_at js bare t) in omega (arith, none));
  tasks = refl;
}

few_take : (o : ℕ) (xs : List ℕ) → length (take o xs) ≤ o
few_take zero xs = omega arith
few_take (suc o) [] = omega arith
few_take (suc o) (x ∷ xs) = let rest = few_take o xs in omega (arith, rest)

take_short : (o : ℕ) (xs : List ℕ) → length (take o xs) ≤ length xs
take_short zero xs = omega arith
take_short (suc o) [] = omega arith
take_short (suc o) (x ∷ xs) = let rest = take_short o xs in omega (arith, rest)

take_get : (o : ℕ) (xs : List ℕ) (i : ℕ) → i < length (take o xs) → get_or (take o xs) i 0 ≡ get_or xs i 0
take_get zero xs i l = absurd (omega (arith, l))
take_get (suc o) [] i l = refl
take_get (suc o) (x ∷ xs) zero l = refl
take_get (suc o) (x ∷ xs) (suc i) l = take_get o xs i (omega (arith, l))

take_whole : (o : ℕ) (xs : List ℕ) → length xs ≤ o → take o xs ≡ xs
take_whole zero [] l = refl
take_whole zero (x ∷ xs) l = absurd (omega (arith, l))
take_whole (suc o) [] l = refl
take_whole (suc o) (x ∷ xs) l = ap (λ r. x ∷ r) (take_whole o xs (omega (arith, l)))

module _ (stages : List Stage) (first a b c : List Job) (s o : ℕ) (name : RingName) (w : Wiring stages first a s o) (edge : IsEdge stages s o) (small : o < length (outputs_of stages s))
    (send : GivesSender a b s name []) (recv : GivesReceiver b c (out_to stages s o) name []) where
  row_outs : (t : ℕ) → get_or (map job_outs c) t [] ≡ get_or (map job_outs a) t [] ++ cond (t == s) (name ∷ []) []
  row_outs t = ap (λ l. get_or l t []) recv.outs ∙ send.outs t

  row_ins : (t : ℕ) → get_or (map job_ins c) t [] ≡ get_or (map job_ins a) t [] ++ cond (t == out_to stages s o) (name ∷ []) []
  row_ins t = recv.ins t ∙ ap (λ l. get_or l t [] ++ cond (t == out_to stages s o) (name ∷ []) []) send.ins

  joins_kept : (x y : ℕ) → Joins stages (map job_outs a) (map job_ins a) x y → Joins stages (map job_outs c) (map job_ins c) x y
  joins_kept x y j = (
    j.0,
    (
      subst (λ (l : List RingName). slice_get l y ≡ Some j.0) (sym (row_outs x)) (get_grown (get_or (map job_outs a) x []) (cond (x == s) (name ∷ []) []) y j.0 j.1.0),
      subst (λ (l : List RingName). slice_get l (in_place stages x y) ≡ Some j.0) (sym (row_ins (out_to stages x y)))
          (get_grown (get_or (map job_ins a) (out_to stages x y) []) (cond (out_to stages x y == out_to stages s o) (name ∷ []) []) (in_place stages x y) j.0 j.1.1),
    ),
  )

  own_outs : get_or (map job_outs c) s [] ≡ get_or (map job_outs a) s [] ++ name ∷ []
  own_outs = row_outs s ∙ ap (λ (v : Bool). get_or (map job_outs a) s [] ++ cond v (name ∷ []) []) (eq-eqb s s refl)

  own_ins : get_or (map job_ins c) (out_to stages s o) [] ≡ get_or (map job_ins a) (out_to stages s o) [] ++ name ∷ []
  own_ins = row_ins (out_to stages s o) ∙ ap (λ (v : Bool). get_or (map job_ins a) (out_to stages s o) [] ++ cond v (name ∷ []) []) (eq-eqb (out_to stages s o) (out_to stages s o) refl)

  new_there : met (out_to stages s o) (take o (outputs_of stages s)) ≡ 0
  new_there = met_none (out_to stages s o) (take o (outputs_of stages s)) (λ i l e. (
      let below = few_take o (outputs_of stages s) in
      let short = take_short o (outputs_of stages s) in
      let same = edge.unique i (omega (arith, l, short)) (sym (take_get o (outputs_of stages s) i l) ∙ e) in
      absurd (omega (arith, l, below, same))))

  joins_new : Joins stages (map job_outs c) (map job_ins c) s o
  joins_new =
      let ys = get_or (map job_ins a) (out_to stages s o) [] in
      let many = w.ins (out_to stages s o) in
      let fresh = new_there in
      let at : length ys ≡ in_place stages s o = omega (arith, many, fresh) in (
        name,
        (
          subst (λ (l : List RingName). slice_get l o ≡ Some name) (sym own_outs) (subst (λ (n : ℕ). slice_get (get_or (map job_outs a) s [] ++ name ∷ []) n ≡ Some name) w.here (get_end (get_or (map job_outs a) s []) name)),
          subst (λ (l : List RingName). slice_get l (in_place stages s o) ≡ Some name) (sym own_ins) (subst (λ (n : ℕ). slice_get (ys ++ name ∷ []) n ≡ Some name) at (get_end ys name)),
        ),
      )

  pub wiring_more : Wiring stages first c s (o + 1)
  wiring_more = record {
    fresh = record {
      no_put = λ t y. ap (λ l. get_or (get_or l t []) y []) recv.puts ∙ (ap (λ l. get_or l y []) (send.puts t) ∙ fresh_cond (get_or (map job_puts a) t []) (t == s) (w.fresh.no_put t) y);
      no_taken = λ t i. ap (λ l. get_or l i []) (recv.takes t)
          ∙ (ap (λ l. get_or (get_or l t [] ++ cond (t == out_to stages s o) ([] ∷ []) []) i []) send.takes ∙ fresh_cond (get_or (map job_takes a) t []) (t == out_to stages s o) (w.fresh.no_taken t) i);
    };
    before = λ x y l k. joins_kept x y (w.before x y l k);
    own = λ y l. elim (cases_lt y o) [
      | inl below ↦ joins_kept s y (w.own y below)
      | inr above ↦ (let e : o ≡ y = omega (arith, l, above) in subst (Joins stages (map job_outs c) (map job_ins c) s) e joins_new)
    ];
    here = (let long = ap length own_outs in let more = length-append (get_or (map job_outs a) s []) (name ∷ []) in let was = w.here in omega (arith, long, more, was));
    after = λ x l. (
        let long = ap length (row_outs x) in
        let more = length_cond (get_or (map job_outs a) x []) name (x == s) in
        let other : ◌≡◌ {A = ℕ} (cond (x == s) 1 0) 0 = ap (λ (v : Bool). cond v 1 0) (ne_eqb x s (λ e. omega (arith, l, e))) in
        let was = w.after x l in
        omega (arith, long, more, other, was));
    ins = λ t. (
        let long = ap length (row_ins t) in
        let more = length_cond (get_or (map job_ins a) t []) name (t == out_to stages s o) in
        let was = w.ins t in
        let grown = ap (met t) (take_more (outputs_of stages s) o 0 small) in
        let end = met_end t (take o (outputs_of stages s)) (out_to stages s o) in
        omega (arith, long, more, was, grown, end));
    tasks = recv.tasks ∙ (send.tasks ∙ w.tasks);
  }

met_ring : (stages : List Stage) (s t : ℕ) → s < task_count stages → HasEdges stages → HasRings stages → met t (outputs_of stages s) ≡ cond (is_ring stages s t) 1 0
met_ring stages s t some edges rings = elim (cases_Bool (is_ring stages s t)) [
  | inl is ↦ (
      let r = rings s t some is in
      rw is (met_one t (outputs_of stages s) r.0 r.1 r.2 (λ j k f. (edges s r.0 some r.1).unique j k (f ∙ sym r.2))))
  | inr isnt ↦ rw isnt (met_none t (outputs_of stages s) (λ i l f. false≢true (sym isnt ∙ (ap (is_ring stages s) (sym f) ∙ (edges s i some l).ring))))
]

pub wiring_next : (stages : List Stage) (first js : List Job) (s o : ℕ) → s < task_count stages → HasEdges stages → HasRings stages → length (outputs_of stages s) ≤ o → Wiring stages first js s o → Wiring stages first js (s + 1) 0
wiring_next stages first js s o some edges rings all w = record {
  fresh = w.fresh;
  before = λ x y l k. elim (cases_lt x s) [
    | inl below ↦ w.before x y below k
    | inr above ↦ (
        let e : s ≡ x = omega (arith, l, above) in
        subst (λ (v : ℕ). y < length (outputs_of stages v) → Joins stages (map job_outs js) (map job_ins js) v y) e (λ m. w.own y (omega (arith, m, all))) k)
  ];
  own = λ y l. absurd (omega (arith, l));
  here = w.after (s + 1) (omega arith);
  after = λ x l. w.after x (omega (arith, l));
  ins = λ t. (
      let was = w.ins t in
      let whole = ap (met t) (take_whole o (outputs_of stages s) all) in
      let ring = met_ring stages s t some edges rings in
      let e : s + 1 ≡ suc s = omega arith in
      let count = ap (count_below (λ x. is_ring stages x t)) e in
      omega (arith, was, whole, ring, count));
  tasks = w.tasks;
}
