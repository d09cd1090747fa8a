-- What holds of `Works`.
use Rattle.std.specs.Prelude.{OnErr, IfSome}
use Rattle.std.proofs.Common.{◌≡◌, ℕ, ◌==◌, ◌<◌, cond, List, [], ◌∷◌, ◌++◌, map, length, reverse, get_or, set, refl, sym, ap, subst, ◌∙◌, append_assoc, inl, inr, get_or-set_same, get_or-set_other, Bool, true, false, arith, Option, Some, None, Result, Ok, Err, IfNone, MatchOption}
use Rattle.std.proofs.lemmas.List.{map-set, length-map, get_or-map, reverse-append}
use Rattle.std.proofs.lemmas.Bool.{false≢true}
use Rattle.std.proofs.lemmas.Bool.Decides.{eqb_tells}
use Rattle.std.proofs.Math.Seq.{map-set_same}
use Rattle.plan_model.specs.PlanData.{PlanData}
use Rattle.stream_model.specs.InputData.{InputData}
use Rattle.dataflow_model.specs.declared.message.Message.{Message}
use Rattle.dataflow_model.specs.AbstractTask.{AbstractTask}
use Rattle.dataflow_model.specs.State.{State}
use Rattle.dataflow_model.specs.Steps.{Event, Open, Read, Save, Stop, Close, Take, Put, LocalStep}
use Rattle.dataflow_model.specs.Steps.LocalStep.{put}
use Rattle.dataflow_model.specs.Runs.{Run, taken, sent}
use Rattle.dataflow_model.specs.Runs.Run.{none, more}
use Rattle.task_steps.specs.declared.fault.StepFault.{StepFault}
use Rattle.task_steps.specs.declared.fault.StepFault.TheVariants.{NotEnabled, Memory, Failed}
use Rattle.task_steps.specs.TaskData.{TaskData, Stands}
use Rattle.task_steps.specs.Answers.{Answers, GoesOn}
use Rattle.task_steps.specs.Puts.{Puts, IsFirst}
use Rattle.task_steps.specs.Taking.{IsReady}
use Rattle.task_steps.proofs.Facts.{stands_still}
use Rattle.thread_runner.specs.declared.ends.Sender.{Sender}
use Rattle.thread_runner.specs.declared.ends.Receiver.{Receiver}
use Rattle.thread_runner.specs.Rings.{put_of, taken_of, ring_of, ring_at}
use Rattle.thread_runner.specs.Works.{put_log, taken_log, taken_at, put_at, Finds, IsTaskOf, Works, IsLeftOf, WorksUpTo}

-- what one step takes from input i, and puts on output j
abbrev pub takes_by : ℕ → Event → List Message
takes_by i e = taken i (e ∷ [])

abbrev pub puts_by : ℕ → Event → List Message
puts_by j e = sent j (e ∷ [])

cond_more : (b : Bool) (m : Message) (ms : List Message) → cond b (m ∷ ms) ms ≡ cond b (m ∷ []) [] ++ ms
cond_more true m ms = refl
cond_more false m ms = refl

taken_one : (i : ℕ) (e : Event) (es : List Event) → taken i (e ∷ es) ≡ takes_by i e ++ taken i es
taken_one i Open es = refl
taken_one i (Read q) es = refl
taken_one i Save es = refl
taken_one i Stop es = refl
taken_one i Close es = refl
taken_one i (Take j m) es = cond_more (i == j) m (taken i es)
taken_one i (Put j m) es = refl

sent_one : (j : ℕ) (e : Event) (es : List Event) → sent j (e ∷ es) ≡ puts_by j e ++ sent j es
sent_one j Open es = refl
sent_one j (Read q) es = refl
sent_one j Save es = refl
sent_one j Stop es = refl
sent_one j Close es = refl
sent_one j (Take i m) es = refl
sent_one j (Put i m) es = cond_more (j == i) m (sent j es)

pub taken-append : (i : ℕ) (xs ys : List Event) → taken i (xs ++ ys) ≡ taken i xs ++ taken i ys
taken-append i [] ys = refl
taken-append i (x ∷ xs) ys = taken_one i x (xs ++ ys) ∙ (ap (λ l. takes_by i x ++ l) (taken-append i xs ys) ∙ (sym (append_assoc (takes_by i x) (taken i xs) (taken i ys)) ∙ ap (λ l. l ++ taken i ys) (sym (taken_one i x xs))))

pub sent-append : (j : ℕ) (xs ys : List Event) → sent j (xs ++ ys) ≡ sent j xs ++ sent j ys
sent-append j [] ys = refl
sent-append j (x ∷ xs) ys = sent_one j x (xs ++ ys) ∙ (ap (λ l. puts_by j x ++ l) (sent-append j xs ys) ∙ (sym (append_assoc (puts_by j x) (sent j xs) (sent j ys)) ∙ ap (λ l. l ++ sent j ys) (sym (sent_one j x xs))))

run_on : {p : PlanData} {k : AbstractTask} {s u t : State} {xs ys : List Event} → Run p k s xs u → Run p k u ys t → Run p k s (ys ++ xs) t
run_on r none = r
run_on r (more q step) = more (run_on r q) step

pub is_task_on : (p : PlanData) (k : AbstractTask) (i : InputData) (d u : TaskData) → GoesOn d u → IsTaskOf p k i d → IsTaskOf p k i u
is_task_on p k i d u on h = subst (IsTaskOf p k i) (sym on.is) (record { stands = stands_still p k d u.state d.has_failed h.stands; reads = h.reads })

pub finds_on : (i : InputData) (d u : TaskData) → GoesOn d u → Finds i d → Finds i u
finds_on i d u on h = subst (Finds i) (sym on.is) (record { columns = h.columns; time = h.time; has = h.has })

-- what is left of a task stands, and finds, what the task does
pub is_task_left : (p : PlanData) (k : AbstractTask) (i : InputData) (u d : TaskData) → IsLeftOf u d → IsTaskOf p k i u → IsTaskOf p k i d
is_task_left p k i u d left h = subst (IsTaskOf p k i) (sym left.is) (record { stands = stands_still p k u (record u.state { windows = left.windows }) left.has_failed h.stands; reads = h.reads })

pub finds_left : (i : InputData) (u d : TaskData) → IsLeftOf u d → Finds i u → Finds i d
finds_left i u d left h = subst (Finds i) (sym left.is) (record { columns = h.columns; time = h.time; has = h.has })

pub goes_on : {d u t : TaskData} → GoesOn d u → GoesOn u t → GoesOn d t
goes_on {d} {u} {t} a b = record { is = b.is ∙ ap (λ (v : TaskData). record v { state = t.state }) a.is }

module _ (i : InputData) where
  pub works_none : (d : TaskData) (ins : List Receiver) (outs : List Sender) → Works i d ins outs d ins outs
  works_none d ins outs = record {
    steps = [];
    on = record { is = refl };
    ran = λ p k h. none;
    same_inputs = refl;
    same_outputs = refl;
    taken = λ n. refl;
    put = λ n. refl;
  }

  pub works_on : {d u t : TaskData} {ins ins' ins'' : List Receiver} {outs outs' outs'' : List Sender}
      → Works i d ins outs u ins' outs' → Works i u ins' outs' t ins'' outs'' → Works i d ins outs t ins'' outs''
  works_on {d} {u} {t} {ins} {ins'} {ins''} {outs} {outs'} {outs''} a b = record {
    steps = b.steps ++ a.steps;
    on = goes_on a.on b.on;
    ran = λ p k h. run_on (a.ran p k h) (b.ran p k (is_task_on p k i d u a.on h));
    same_inputs = b.same_inputs ∙ a.same_inputs;
    same_outputs = b.same_outputs ∙ a.same_outputs;
    taken = λ n. b.taken n ∙ (ap (λ l. taken n b.steps ++ l) (a.taken n) ∙ (sym (append_assoc (taken n b.steps) (taken n a.steps) (taken_at ins n)) ∙ ap (λ l. l ++ taken_at ins n) (sym (taken-append n b.steps a.steps))));
    put = λ n. b.put n ∙ (ap (λ l. sent n b.steps ++ l) (a.put n) ∙ (sym (append_assoc (sent n b.steps) (sent n a.steps) (put_at outs n)) ∙ ap (λ l. l ++ put_at outs n) (sym (sent-append n b.steps a.steps))));
  }

  -- a step that touches no ring
  pub works_inside : {d d' : TaskData} (e : Event) (ins : List Receiver) (outs : List Sender)
      → ((n : ℕ) → taken n (e ∷ []) ≡ []) → ((n : ℕ) → sent n (e ∷ []) ≡ []) → GoesOn d d'
      → ((p : PlanData) (k : AbstractTask) → IsTaskOf p k i d → LocalStep p k d.state e d'.state) → Works i d ins outs d' ins outs
  works_inside {d} {d'} e ins outs no_take no_put on step = record {
    steps = e ∷ [];
    on = on;
    ran = λ p k h. more none (step p k h);
    same_inputs = refl;
    same_outputs = refl;
    taken = λ n. ap (λ l. l ++ taken_at ins n) (sym (no_take n));
    put = λ n. ap (λ l. l ++ put_at outs n) (sym (no_put n));
  }

-- a refused step leaves the task as it was, but for its windows
pub left_of : (is : PlanData → AbstractTask → Type 0) (can : PlanData → AbstractTask → State → Type 0) (e : Event) (d d' : TaskData) (f : StepFault) → Answers is can e d d' (Err f) → IsLeftOf d d'
left_of is can e d d' NotEnabled a = record { windows = d.state.windows; has_failed = d.has_failed; is = a.1; whole = λ _. refl }
left_of is can e d d' Memory a = record { windows = a.1.windows; has_failed = true; is = a.1.is; whole = λ over. absurd (false≢true (sym a.1.going ∙ over)) }
left_of is can e d d' Failed a = record { windows = d.state.windows; has_failed = d.has_failed; is = a.1; whole = λ _. refl }

pub left_same : (d : TaskData) → IsLeftOf d d
left_same d = record { windows = d.state.windows; has_failed = d.has_failed; is = refl; whole = λ _. refl }

-- the logs of the ends, once one end's grew
pub at_set : {A B : Type 0} (f : A → List B) (xs : List A) (i k : ℕ) (y d : A) (zs : List B) → i < length xs → f y ≡ zs ++ f (get_or xs i d)
    → get_or (map f (set xs i y)) k [] ≡ cond (k == i) zs [] ++ get_or (map f xs) k []
at_set {A} {B} f xs i k y d zs lt e =
    rw (map-set f xs i y) (elim (eqb_tells k i) [
      | inl h ↦
          rw (h.0, h.1, get_or-set_same (map f xs) i (f y) [] (rw (length-map xs f) lt), get_or-map f xs i d [] lt) e
      | inr h ↦
          rw (h.0, get_or-set_other (map f xs) i k (f y) [] h.1) refl
    ])

reverse_more : (xs : List Message) (m : Message) → reverse (xs ++ m ∷ []) ≡ m ∷ reverse xs
reverse_more xs m = reverse-append xs (m ∷ [])

module _ (i : InputData) where
  pub works_put : {d d' : TaskData} (ins : List Receiver) (outs : List Sender) (o : ℕ) (m : Message) (s new : Sender)
      → o < length outs → ring_of new ≡ ring_of (get_or outs o s) → put_of new ≡ put_of (get_or outs o s) ++ m ∷ []
      → Puts o m d d' → Works i d ins outs d' ins (set outs o new)
  works_put {d} {d'} ins outs o m s new lt ring log puts =
      let state : d'.state ≡ record d.state { pending = d'.state.pending } = ap (λ (v : TaskData). v.state) puts.is in record {
        steps = Put o m ∷ [];
        on = record { is = puts.is ∙ sym (ap (λ (v : State). record d { state = v }) state) };
        ran = λ p k h. more none (subst (LocalStep p k d.state (Put o m)) (sym state) (put puts.first));
        same_inputs = refl;
        same_outputs = map-set_same ring_of outs o new s ring;
        taken = λ n. refl;
        put = λ n. at_set put_log outs o n new s (m ∷ []) lt (ap reverse log ∙ reverse_more (put_of (get_or outs o s)) m);
      }

  pub works_take : {d d' : TaskData} (ins : List Receiver) (outs : List Sender) (n : ℕ) (m : Message) (r new : Receiver)
      → n < length ins → ring_at new ≡ ring_at (get_or ins n r) → taken_of new ≡ taken_of (get_or ins n r) ++ m ∷ []
      → GoesOn d d' → ((p : PlanData) (k : AbstractTask) → Stands p k d → LocalStep p k d.state (Take n m) d'.state) → Works i d ins outs d' (set ins n new) outs
  works_take {d} {d'} ins outs n m r new lt ring log on step = record {
    steps = Take n m ∷ [];
    on = on;
    ran = λ p k h. more none (step p k h.stands);
    same_inputs = map-set_same ring_at ins n new r ring;
    same_outputs = refl;
    taken = λ j. at_set taken_log ins n j new r (m ∷ []) lt (ap reverse log ∙ reverse_more (taken_of (get_or ins n r)) m);
    put = λ j. refl;
  }

  -- an end looked at its ring
  pub works_look_out : (d : TaskData) (ins : List Receiver) (outs : List Sender) (o : ℕ) (s new : Sender)
      → ring_of new ≡ ring_of (get_or outs o s) → put_of new ≡ put_of (get_or outs o s) → Works i d ins outs d ins (set outs o new)
  works_look_out d ins outs o s new ring log = record {
    steps = [];
    on = record { is = refl };
    ran = λ p k h. none;
    same_inputs = refl;
    same_outputs = map-set_same ring_of outs o new s ring;
    taken = λ n. refl;
    put = λ n. ap (λ l. get_or l n []) (map-set_same put_log outs o new s (ap reverse log));
  }

  pub works_look_in : (d : TaskData) (ins : List Receiver) (outs : List Sender) (n : ℕ) (r new : Receiver)
      → ring_at new ≡ ring_at (get_or ins n r) → taken_of new ≡ taken_of (get_or ins n r) → Works i d ins outs d (set ins n new) outs
  works_look_in d ins outs n r new ring log = record {
    steps = [];
    on = record { is = refl };
    ran = λ p k h. none;
    same_inputs = map-set_same ring_at ins n new r ring;
    same_outputs = refl;
    taken = λ j. ap (λ l. get_or l j []) (map-set_same taken_log ins n new r (ap reverse log));
    put = λ j. refl;
  }

  -- the first pending message is the one that a put takes out
  pub puts_first : {d d' : TaskData} (o j : ℕ) (m : Message) → IsFirst o d.state.pending → Puts j m d d' → Puts o m d d'
  puts_first {d} {d'} o j m first puts =
      let e : o ≡ j = subst (IsFirst o) puts.first first in
      subst (λ x. Puts x m d d') (sym e) puts

cond_none : {A : Type 0} (b : Bool) → cond {A = List A} b [] [] ≡ []
cond_none true = refl
cond_none false = refl

module _ (i : InputData) where
  -- a fault with nothing lost
  pub works_fault : {d u d' : TaskData} {ins ins' : List Receiver} {outs outs' : List Sender} → Works i d ins outs u ins' outs' → IsLeftOf u d' → WorksUpTo i d ins outs d' ins' outs'
  works_fault {d} {u} {d'} {ins} {ins'} {outs} {outs'} w left = record {
    last = u;
    steps = w.steps;
    on = w.on;
    ran = w.ran;
    left = left;
    same_inputs = w.same_inputs;
    same_outputs = w.same_outputs;
    lost_at = 0;
    lost = [];
    one_lost = omega arith;
    ready = inl refl;
    taken = λ n. w.taken n ∙ ap (λ l. l ++ (taken n w.steps ++ taken_at ins n)) (sym (cond_none (n == 0)));
    put = w.put;
  }

  -- a message was taken, and the task did not take it
  pub works_lose : (d d' : TaskData) (ins : List Receiver) (outs : List Sender) (n : ℕ) (m : Message) (r new : Receiver) → n < length ins
      → ring_at new ≡ ring_at (get_or ins n r) → taken_of new ≡ taken_of (get_or ins n r) ++ m ∷ [] → IsLeftOf d d' → IsReady d n → WorksUpTo i d ins outs d' (set ins n new) outs
  works_lose d d' ins outs n m r new lt ring log left ready = record {
    last = d;
    steps = [];
    on = record { is = refl };
    ran = λ p k h. none;
    left = left;
    same_inputs = map-set_same ring_at ins n new r ring;
    same_outputs = refl;
    lost_at = n;
    lost = m ∷ [];
    one_lost = omega arith;
    ready = inr ready;
    taken = λ j. at_set taken_log ins n j new r (m ∷ []) lt (ap reverse log ∙ reverse_more (taken_of (get_or ins n r)) m);
    put = λ j. refl;
  }

  -- after steps that went well
  pub works_on_fault : {d u t : TaskData} {ins ins' ins'' : List Receiver} {outs outs' outs'' : List Sender}
      → Works i d ins outs u ins' outs' → WorksUpTo i u ins' outs' t ins'' outs'' → WorksUpTo i d ins outs t ins'' outs''
  works_on_fault {d} {u} {t} {ins} {ins'} {ins''} {outs} {outs'} {outs''} a b = record {
    last = b.last;
    steps = b.steps ++ a.steps;
    on = goes_on a.on b.on;
    ran = λ p k h. run_on (a.ran p k h) (b.ran p k (is_task_on p k i d u a.on h));
    left = b.left;
    same_inputs = b.same_inputs ∙ a.same_inputs;
    same_outputs = b.same_outputs ∙ a.same_outputs;
    lost_at = b.lost_at;
    lost = b.lost;
    one_lost = b.one_lost;
    ready = b.ready;
    taken = λ n. b.taken n ∙ ap (λ l. cond (n == b.lost_at) b.lost [] ++ l) (ap (λ l. taken n b.steps ++ l) (a.taken n) ∙ (sym (append_assoc (taken n b.steps) (taken n a.steps) (taken_at ins n)) ∙ ap (λ l. l ++ taken_at ins n) (sym (taken-append n b.steps a.steps))));
    put = λ n. b.put n ∙ (ap (λ l. sent n b.steps ++ l) (a.put n) ∙ (sym (append_assoc (sent n b.steps) (sent n a.steps) (put_at outs n)) ∙ ap (λ l. l ++ put_at outs n) (sym (sent-append n b.steps a.steps))));
  }

pub on_err : {A E : Type 0} (r : Result A E) (P : Type 0) → P → OnErr r P
on_err (Ok x) P p = tt
on_err (Err e) P p = p

pub match_of : {A : Type 0} (o : Option A) (P : Type 0) (Q : A → Type 0) → IfNone o P → IfSome o Q → MatchOption o P Q
match_of None P Q p q = p
match_of (Some x) P Q p q = q
