-- The history of a leg, out of what its workers say.
use Rattle.std.specs.Prelude.{MatchOption}
use Rattle.std.proofs.Common.{◌≡◌, ℕ, zero, suc, ◌+◌, ◌-◌, ◌<◌, ◌≤◌, ◌==◌, cond, List, [], ◌∷◌, ◌++◌, map, length, reverse, take, get_or, refl, sym, ap, subst, ◌∙◌, append_assoc, arith, true, All, Option, Some, None}
use Rattle.std.specs.List.{AllZip}
use Rattle.std.proofs.lemmas.Option.{none-some}
use Rattle.std.proofs.lemmas.List.{length-map, get_or-map, append-nil, reverse-append, length-append, take_at}
use Rattle.plan_model.specs.PlanData.{PlanData}
use Rattle.stream_model.specs.InputData.{InputData}
use Rattle.dataflow_model.specs.declared.message.Message.{Message}
use Rattle.dataflow_model.specs.AbstractTask.{AbstractTask}
use Rattle.dataflow_model.specs.State.{State}
use Rattle.dataflow_model.specs.Steps.{Event, IsDone}
use Rattle.dataflow_model.specs.Runs.{Run, taken, sent}
use Rattle.dataflow_model.specs.Runs.Run.{none}
use Rattle.dataflow_model.specs.History.{History}
use Rattle.legs.specs.declared.fault.LegFault.{LegFault}
use Rattle.legs.specs.declared.fault.LegFault.TheVariants.{Memory}
use Rattle.layout_rules.specs.Below.{count_below}
use Rattle.layout_rules.specs.Stages.{task_count, is_ring}
use Rattle.task_steps.specs.TaskData.{TaskData}
use Rattle.task_steps.specs.Answers.{GoesOn}
use Rattle.core_steps.specs.Given.{GivenData, layout_in, start_in}
use Rattle.core_steps.specs.World.{state_at, IsPlaced, IsSound}
use Rattle.core_steps.specs.Beginning.{AreNewTasks}
use Rattle.core_steps.specs.Finishing.{AreAtEnd}
use Rattle.core_steps.specs.Sealing.{AreOnTheWay}
use Rattle.thread_runner.specs.declared.jobs.Job.{Job}
use Rattle.thread_runner.specs.declared.jobs.Done.{Done}
use Rattle.thread_runner.specs.Rings.{put_of, taken_of}
use Rattle.thread_runner.specs.Works.{IsTaskOf, IsLeftOf, Works, WorksUpTo}
use Rattle.thread_runner.specs.Jobs.{AllWorkOf, FindsInput}
use Rattle.thread_runner.specs.Edges.{job_task, job_outs, job_ins, job_puts, job_takes, done_task, done_outs, done_ins, done_puts, done_takes, taken_there, put_tables, taken_tables, out_names, in_names, SameDones, AreLeft, AreJoined}
use Rattle.thread_runner.specs.Legs.{NoFault, NoFaults, Wired, AreWired, AreWorked}
use Rattle.thread_runner.proofs.WorkLemmas.{is_task_on, is_task_left, finds_on, finds_left, left_same}

log_at : {A : Type 0} (f : A → List Message) (xs : List A) (o : ℕ) → get_or (map (λ x. reverse (f x)) xs) o [] ≡ reverse (get_or (map f xs) o [])
log_at f [] o = refl
log_at f (x ∷ xs) zero = refl
log_at f (x ∷ xs) (suc o) = log_at f xs o

-- what one worker did: steps that were accepted, what they have left of the task, and what was taken beyond them
pub record Worked (i : InputData) (j : Job) (d : Done) : Type 0 where
  pub steps : List Event
  pub last : TaskData
  pub on : GoesOn j.task last
  pub ran : (p : PlanData) (k : AbstractTask) → IsTaskOf p k i j.task → Run p k j.task.state steps last.state
  pub left : IsLeftOf last d.task
  pub lost : ℕ → List Message
  pub puts : (o : ℕ) → reverse (get_or (done_puts d) o []) ≡ sent o steps ++ reverse (get_or (job_puts j) o [])
  pub takes : (n : ℕ) → reverse (get_or (done_takes d) n []) ≡ lost n ++ (taken n steps ++ reverse (get_or (job_takes j) n []))
  pub outs : done_outs d ≡ job_outs j
  pub ins : done_ins d ≡ job_ins j
  pub fine : NoFault d → (last ≡ d.task) × IsDone d.task.state

-- without a fault
worked : (i : InputData) (j : Job) (d : Done) → IsDone d.task.state × Works i j.task j.inputs.items j.outputs.items d.task d.inputs.items d.outputs.items → Worked i j d
worked i j d w = record {
  steps = w.1.steps;
  last = d.task;
  on = w.1.on;
  ran = w.1.ran;
  left = left_same d.task;
  lost = λ n. [];
  puts = λ o. sym (log_at put_of d.outputs.items o) ∙ (w.1.put o ∙ ap (λ l. sent o w.1.steps ++ l) (log_at put_of j.outputs.items o));
  takes = λ n. sym (log_at taken_of d.inputs.items n) ∙ (w.1.taken n ∙ ap (λ l. taken n w.1.steps ++ l) (log_at taken_of j.inputs.items n));
  outs = w.1.same_outputs;
  ins = w.1.same_inputs;
  fine = λ _. (refl, w.0);
}

-- with one
worked_up_to : (i : InputData) (j : Job) (d : Done) → (NoFault d → ⊥) → WorksUpTo i j.task j.inputs.items j.outputs.items d.task d.inputs.items d.outputs.items → Worked i j d
worked_up_to i j d fault w = record {
  steps = w.steps;
  last = w.last;
  on = w.on;
  ran = w.ran;
  left = w.left;
  lost = λ n. cond (n == w.lost_at) w.lost [];
  puts = λ o. sym (log_at put_of d.outputs.items o) ∙ (w.put o ∙ ap (λ l. sent o w.steps ++ l) (log_at put_of j.outputs.items o));
  takes = λ n. sym (log_at taken_of d.inputs.items n) ∙ (w.taken n ∙ ap (λ l. cond (n == w.lost_at) w.lost [] ++ (taken n w.steps ++ l)) (log_at taken_of j.inputs.items n));
  outs = w.same_outputs;
  ins = w.same_inputs;
  fine = λ none. absurd (fault none);
}

worked_by : (i : InputData) (j : Job) (d : Done) (fault : Option LegFault) → d.fault ≡ fault
    → MatchOption fault (IsDone d.task.state × Works i j.task j.inputs.items j.outputs.items d.task d.inputs.items d.outputs.items)
    (λ fault. (fault ≡ Memory) × WorksUpTo i j.task j.inputs.items j.outputs.items d.task d.inputs.items d.outputs.items)
    → Worked i j d
worked_by i j d None e w = worked i j d w
worked_by i j d (Some fault) e w = worked_up_to i j d (λ none. none-some fault (sym none ∙ e)) w.1

all_worked : (i : InputData) (js : List Job) (ds : List Done) → AllWorkOf i js ds → AllZip (Worked i) js ds
all_worked i [] [] w = tt
all_worked i [] (d ∷ ds) w = absurd w
all_worked i (j ∷ js) [] w = absurd w
all_worked i (j ∷ js) (d ∷ ds) w = (worked_by i j d d.fault refl w.0, all_worked i js ds w.1)

same_count : {A B : Type 0} (R : A → B → Type 0) (xs : List A) (ys : List B) → AllZip R xs ys → length xs ≡ length ys
same_count R [] [] h = refl
same_count R [] (y ∷ ys) h = absurd h
same_count R (x ∷ xs) [] h = absurd h
same_count R (x ∷ xs) (y ∷ ys) h = ap suc (same_count R xs ys h.1)

-- a task that goes on stays at its place, and so does what is left of it
placed_on : (p : PlanData) (i : InputData) (k : AbstractTask) (d u e : TaskData) → GoesOn d u → IsLeftOf u e → IsPlaced p i k d → IsPlaced p i k e
placed_on p i k d u e on left h =
    let there = is_task_left p k i u e left (is_task_on p k i d u on (record { stands = h.stands; reads = h.reads })) in
    let found = finds_left i u e left (finds_on i d u on (record { columns = h.columns; time = h.time; has = h.has })) in
    record { stands = there.stands; reads = there.reads; has = found.has; columns = found.columns; time = found.time }

-- the steps of task t, and none where there is no such task
abbrev pub steps_at : (i : InputData) (js : List Job) (ds : List Done) → AllZip (Worked i) js ds → ℕ → List Event
steps_at i [] [] h t = []
steps_at i [] (d ∷ ds) h t = []
steps_at i (j ∷ js) [] h t = []
steps_at i (j ∷ js) (d ∷ ds) h zero = h.0.steps
steps_at i (j ∷ js) (d ∷ ds) h (suc t) = steps_at i js ds h.1 t

-- where they lead, and where there is no such task to where all begin
abbrev pub last_at : (i : InputData) (js : List Job) (ds : List Done) → AllZip (Worked i) js ds → (ℕ → State) → ℕ → State
last_at i [] [] h start t = start t
last_at i [] (d ∷ ds) h start t = start t
last_at i (j ∷ js) [] h start t = start t
last_at i (j ∷ js) (d ∷ ds) h start zero = h.0.last.state
last_at i (j ∷ js) (d ∷ ds) h start (suc t) = last_at i js ds h.1 (λ u. start (suc u)) t

run_at : (i : InputData) (js : List Job) (ds : List Done) (h : AllZip (Worked i) js ds) (p : PlanData) (k : ℕ → AbstractTask) (start : ℕ → State)
    → ((t : ℕ) (d : TaskData) → t < length js → IsPlaced p i (k t) (get_or (map job_task js) t d))
    → ((t : ℕ) (d : TaskData) → t < length js → (get_or (map job_task js) t d).state ≡ start t)
    → (t : ℕ) → Run p (k t) (start t) (steps_at i js ds h t) (last_at i js ds h start t)
run_at i [] [] h p k start placed opening t = none
run_at i [] (d ∷ ds) h p k start placed opening t = absurd h
run_at i (j ∷ js) [] h p k start placed opening t = absurd h
run_at i (j ∷ js) (d ∷ ds) h p k start placed opening zero =
    let here = placed 0 j.task (omega arith) in
    subst (λ s. Run p (k 0) s h.0.steps h.0.last.state) (opening 0 j.task (omega arith)) (h.0.ran p (k 0) (record { stands = here.stands; reads = here.reads }))
run_at i (j ∷ js) (d ∷ ds) h p k start placed opening (suc t) =
    run_at i js ds h.1 p (λ u. k (suc u)) (λ u. start (suc u)) (λ u e l. placed (suc u) e (omega (arith, l))) (λ u e l. opening (suc u) e (omega (arith, l))) t

abbrev pub end_at : List Done → (ℕ → State) → ℕ → State
end_at ds start t = get_or (map (λ (d : TaskData). d.state) (map done_task ds)) t (start t)

-- what is left of a task is where its steps led, but for its windows
left_at : (i : InputData) (js : List Job) (ds : List Done) (h : AllZip (Worked i) js ds) (start : ℕ → State) (t : ℕ)
    → end_at ds start t ≡ record (last_at i js ds h start t) { windows = (end_at ds start t).windows }
left_at i [] [] h start t = refl
left_at i [] (d ∷ ds) h start t = absurd h
left_at i (j ∷ js) [] h start t = absurd h
left_at i (j ∷ js) (d ∷ ds) h start zero = ap (λ (u : TaskData). u.state) h.0.left.is ∙ ap (λ w. record h.0.last.state { windows = w }) (sym (ap (λ (u : TaskData). u.state.windows) h.0.left.is))
left_at i (j ∷ js) (d ∷ ds) h start (suc t) = left_at i js ds h.1 (λ u. start (suc u)) t

whole_at : (i : InputData) (js : List Job) (ds : List Done) (h : AllZip (Worked i) js ds) (start : ℕ → State) (t : ℕ)
    → (last_at i js ds h start t).over ≡ true → end_at ds start t ≡ last_at i js ds h start t
whole_at i [] [] h start t over = refl
whole_at i [] (d ∷ ds) h start t over = absurd h
whole_at i (j ∷ js) [] h start t over = absurd h
whole_at i (j ∷ js) (d ∷ ds) h start zero over = ap (λ (u : TaskData). u.state) h.0.left.is ∙ ap (λ w. record h.0.last.state { windows = w }) (h.0.left.whole over)
whole_at i (j ∷ js) (d ∷ ds) h start (suc t) over = whole_at i js ds h.1 (λ u. start (suc u)) t over

-- without a fault they led just there, and the task is done
fine_at : (i : InputData) (js : List Job) (ds : List Done) (h : AllZip (Worked i) js ds) (start : ℕ → State) → NoFaults ds → (t : ℕ) → last_at i js ds h start t ≡ end_at ds start t
fine_at i [] [] h start fine t = refl
fine_at i [] (d ∷ ds) h start fine t = absurd h
fine_at i (j ∷ js) [] h start fine t = absurd h
fine_at i (j ∷ js) (d ∷ ds) h start fine zero = ap (λ (u : TaskData). u.state) (h.0.fine fine.0).0
fine_at i (j ∷ js) (d ∷ ds) h start fine (suc t) = fine_at i js ds h.1 (λ u. start (suc u)) fine.1 t

done_at : (i : InputData) (js : List Job) (ds : List Done) → AllZip (Worked i) js ds → NoFaults ds → (t : ℕ) (s : State) → t < length js → IsDone (get_or (map (λ (d : TaskData). d.state) (map done_task ds)) t s)
done_at i [] ds h fine t s l = absurd (omega (arith, l))
done_at i (j ∷ js) [] h fine t s l = absurd h
done_at i (j ∷ js) (d ∷ ds) h fine zero s l = (h.0.fine fine.0).1
done_at i (j ∷ js) (d ∷ ds) h fine (suc t) s l = done_at i js ds h.1 fine.1 t s (omega (arith, l))

placed_at : (i : InputData) (js : List Job) (ds : List Done) → AllZip (Worked i) js ds → (p : PlanData) (k : ℕ → AbstractTask)
    → ((t : ℕ) (d : TaskData) → t < length js → IsPlaced p i (k t) (get_or (map job_task js) t d))
    → (t : ℕ) (d : TaskData) → t < length js → IsPlaced p i (k t) (get_or (map done_task ds) t d)
placed_at i [] ds h p k placed t e l = absurd (omega (arith, l))
placed_at i (j ∷ js) [] h p k placed t e l = absurd h
placed_at i (j ∷ js) (d ∷ ds) h p k placed zero e l = placed_on p i (k 0) j.task h.0.last d.task h.0.on h.0.left (placed 0 j.task (omega arith))
placed_at i (j ∷ js) (d ∷ ds) h p k placed (suc t) e l = placed_at i js ds h.1 p (λ u. k (suc u)) (λ u f m. placed (suc u) f (omega (arith, m))) t e (omega (arith, l))

puts_at : (i : InputData) (js : List Job) (ds : List Done) (h : AllZip (Worked i) js ds) → ((t o : ℕ) → get_or (get_or (map job_puts js) t []) o [] ≡ []) → (t o : ℕ)
    → reverse (get_or (get_or (map done_puts ds) t []) o []) ≡ sent o (steps_at i js ds h t)
puts_at i [] [] h fresh t o = refl
puts_at i [] (d ∷ ds) h fresh t o = absurd h
puts_at i (j ∷ js) [] h fresh t o = absurd h
puts_at i (j ∷ js) (d ∷ ds) h fresh zero o = h.0.puts o ∙ (ap (λ (l : List Message). sent o h.0.steps ++ reverse l) (fresh 0 o) ∙ append-nil (sent o h.0.steps))
puts_at i (j ∷ js) (d ∷ ds) h fresh (suc t) o = puts_at i js ds h.1 (λ u. fresh (suc u)) t o

-- what was taken, the newest first, ends with what the steps took
takes_at : (i : InputData) (js : List Job) (ds : List Done) (h : AllZip (Worked i) js ds) → ((t n : ℕ) → get_or (get_or (map job_takes js) t []) n [] ≡ []) → (t n : ℕ)
    → (lost : List Message) × (reverse (get_or (get_or (map done_takes ds) t []) n []) ≡ lost ++ taken n (steps_at i js ds h t))
takes_at i [] [] h fresh t n = ([], refl)
takes_at i [] (d ∷ ds) h fresh t n = absurd h
takes_at i (j ∷ js) [] h fresh t n = absurd h
takes_at i (j ∷ js) (d ∷ ds) h fresh zero n =
    (h.0.lost n, h.0.takes n ∙ ap (λ (l : List Message). h.0.lost n ++ l) (ap (λ (l : List Message). taken n h.0.steps ++ reverse l) (fresh 0 n) ∙ append-nil (taken n h.0.steps)))
takes_at i (j ∷ js) (d ∷ ds) h fresh (suc t) n = takes_at i js ds h.1 (λ u. fresh (suc u)) t n

-- all ends are those of the jobs
outs_same : (i : InputData) (js : List Job) (ds : List Done) → AllZip (Worked i) js ds → map done_outs ds ≡ map job_outs js
outs_same i [] [] h = refl
outs_same i [] (d ∷ ds) h = absurd h
outs_same i (j ∷ js) [] h = absurd h
outs_same i (j ∷ js) (d ∷ ds) h = ap (λ l. l ∷ map done_outs ds) h.0.outs ∙ ap (λ l. job_outs j ∷ l) (outs_same i js ds h.1)

ins_same : (i : InputData) (js : List Job) (ds : List Done) → AllZip (Worked i) js ds → map done_ins ds ≡ map job_ins js
ins_same i [] [] h = refl
ins_same i [] (d ∷ ds) h = absurd h
ins_same i (j ∷ js) [] h = absurd h
ins_same i (j ∷ js) (d ∷ ds) h = ap (λ l. l ∷ map done_ins ds) h.0.ins ∙ ap (λ l. job_ins j ∷ l) (ins_same i js ds h.1)

-- a list that ends so has a front
front_again : (ls ys : List Message) → take (length (ls ++ ys) - length ys) (ls ++ ys) ≡ ls
front_again ls ys = let long = length-append ls ys in take_at ls ys (length (ls ++ ys) - length ys) (omega (arith, long))

front_of : (xs ls ys : List Message) → xs ≡ ls ++ ys → xs ≡ take (length xs - length ys) xs ++ ys
front_of xs ls ys e = e ∙ ap (λ (l : List Message). l ++ ys) (sym (subst (λ (z : List Message). take (length z - length ys) z ≡ ls) (sym e) (front_again ls ys)))

module _ (g : GivenData) (js : List Job) (ds : List Done) (sound : IsSound g) (wired : AreWired g js) (h : AllZip (Worked g.input) js ds) (left : AreLeft g.layout.stages (put_tables ds) (taken_tables ds)) where
  many : length js ≡ task_count g.layout.stages
  many = sym (length-map js job_task) ∙ wired.tasks.count

  placed : (t : ℕ) (d : TaskData) → t < length js → IsPlaced g.plan g.input ((layout_in g).task t) (get_or (map job_task js) t d)
  placed t d l = wired.tasks.placed t d (omega (arith, l, many))

  opening : (t : ℕ) (d : TaskData) → t < length js → (get_or (map job_task js) t d).state ≡ start_in g t
  opening t d l = wired.tasks.opening t d (omega (arith, l, many))

  abbrev steps : ℕ → List Event
  steps = steps_at g.input js ds h

  abbrev lasts : ℕ → State
  lasts = last_at g.input js ds h (start_in g)

  -- what was put on the ring from s to t ends with what the steps took from it
  on_ring : (s t : ℕ) → is_ring g.layout.stages s t ≡ true
      → sent ((layout_in g).out_at s t) (steps s) ≡ take (length (sent ((layout_in g).out_at s t) (steps s)) - length (taken ((layout_in g).in_at s t) (steps t))) (sent ((layout_in g).out_at s t) (steps s)) ++ taken ((layout_in g).in_at s t) (steps t)
  on_ring s t ring =
      let out = sound.layout.ring_out s t ring in
      let o = (layout_in g).out_at s t in
      let up = sound.layout.forward s t ring in
      let end = sound.layout.output s o out.0 in
      let many_tasks = sound.count in
      let to = out.1 in
      let some : s < task_count g.layout.stages = omega (arith, up, end.2, many_tasks, to) in
      let rest = left s o some out.0 in
      let put = puts_at g.input js ds h wired.fresh.no_put s o in
      let there : taken_there g.layout.stages (taken_tables ds) s o ≡ get_or (get_or (taken_tables ds) t []) ((layout_in g).in_at s t) [] =
      ap (λ (u : ℕ). get_or (get_or (taken_tables ds) u []) (count_below (λ x. is_ring g.layout.stages x u) s) []) to in
      let all = takes_at g.input js ds h wired.fresh.no_taken t ((layout_in g).in_at s t) in
      let took = ap reverse there ∙ all.1 in
      front_of (sent o (steps s)) (reverse rest.0 ++ all.0) (taken ((layout_in g).in_at s t) (steps t))
      (sym put ∙ (ap reverse rest.1 ∙ (reverse-append (taken_there g.layout.stages (taken_tables ds) s o) rest.0
      ∙ (ap (λ (l : List Message). reverse rest.0 ++ l) took ∙ sym (append_assoc (reverse rest.0) all.0 (taken ((layout_in g).in_at s t) (steps t)))))))

  abbrev history_to : (end : ℕ → State) → ((t : ℕ) → lasts t ≡ end t) → History g.plan (layout_in g) (start_in g)
  history_to end same = record {
    steps = steps;
    end = end;
    run = λ t. subst (Run g.plan ((layout_in g).task t) (start_in g t) (steps t)) (same t) (run_at g.input js ds h g.plan (layout_in g).task (start_in g) placed opening t);
    holds = λ s t. take (length (sent ((layout_in g).out_at s t) (steps s)) - length (taken ((layout_in g).in_at s t) (steps t))) (sent ((layout_in g).out_at s t) (steps s));
    rings = on_ring;
  }

  count_done : length (map done_task ds) ≡ task_count g.layout.stages
  count_done = length-map ds done_task ∙ (sym (same_count (Worked g.input) js ds h) ∙ many)

  placed_done : (t : ℕ) (d : TaskData) → t < task_count g.layout.stages → IsPlaced g.plan g.input ((layout_in g).task t) (get_or (map done_task ds) t d)
  placed_done t d l = placed_at g.input js ds h g.plan (layout_in g).task placed t d (omega (arith, l, many))

  at_end : NoFaults ds → AreAtEnd g (map done_task ds)
  at_end fine = record {
    count = count_done;
    placed = placed_done;
    ended = record {
      given = sound.given;
      history = history_to (state_at g (map done_task ds)) (fine_at g.input js ds h (start_in g) fine);
      ends = refl;
      complete = λ t l. done_at g.input js ds h fine t (start_in g t) (let many_tasks = sound.count in omega (arith, l, many, many_tasks));
    };
  }

  on_the_way : AreOnTheWay g (map done_task ds)
  on_the_way = record {
    given = sound.given;
    count = count_done;
    placed = placed_done;
    come = record {
      history = history_to lasts (λ t. refl);
      ends = left_at g.input js ds h (start_in g);
      over = whole_at g.input js ds h (start_in g);
    };
  }

-- what is left over is told alike of what was settled
left_before : (g : GivenData) (ds ds' : List Done) → SameDones ds ds' → AreLeft g.layout.stages (put_tables ds') (taken_tables ds') → AreLeft g.layout.stages (put_tables ds) (taken_tables ds)
left_before g ds ds' same left =
    subst (λ (l : List (List (List Message))). AreLeft g.layout.stages (put_tables ds) l) same.3
    (subst (λ (l : List (List (List Message))). AreLeft g.layout.stages l (taken_tables ds')) same.2 left)

-- the tasks of workers without a fault stand where a complete history ends, once all edges are settled
pub are_at_end : (g : GivenData) (ds ds' : List Done) → IsSound g → AreWorked g ds → NoFaults ds → SameDones ds ds' → AreLeft g.layout.stages (put_tables ds') (taken_tables ds') → AreAtEnd g (map done_task ds')
are_at_end g ds ds' sound w fine same left =
    subst (AreAtEnd g) (sym same.4) (at_end g w.jobs ds sound w.wired (all_worked g.input w.jobs ds w.work) (left_before g ds ds' same left) fine)

-- and those of any workers on its way
pub are_on_the_way : (g : GivenData) (ds ds' : List Done) → IsSound g → AreWorked g ds → SameDones ds ds' → AreLeft g.layout.stages (put_tables ds') (taken_tables ds') → AreOnTheWay g (map done_task ds')
are_on_the_way g ds ds' sound w same left =
    subst (AreOnTheWay g) (sym same.4) (on_the_way g w.jobs ds sound w.wired (all_worked g.input w.jobs ds w.work) (left_before g ds ds' same left))

pub as_many : (g : GivenData) (ds : List Done) → AreWorked g ds → length ds ≡ task_count g.layout.stages
as_many g ds w = sym (same_count (Worked g.input) w.jobs ds (all_worked g.input w.jobs ds w.work)) ∙ (sym (length-map w.jobs job_task) ∙ w.wired.tasks.count)

pub are_joined : (g : GivenData) (ds : List Done) → AreWorked g ds → AreJoined g.layout.stages (out_names ds) (in_names ds)
are_joined g ds w =
    let h = all_worked g.input w.jobs ds w.work in
    subst (λ l. AreJoined g.layout.stages l (in_names ds)) (sym (outs_same g.input w.jobs ds h)) (subst (λ l. AreJoined g.layout.stages (map job_outs w.jobs) l) (sym (ins_same g.input w.jobs ds h)) w.wired.joined)

-- each job's task finds in the input what it is to read
pub finds_all : (g : GivenData) (js : List Job) → AreWired g js → All (FindsInput g.input) js
finds_all g js w = λ k d l. (
    let count = w.tasks.count in
    let long = length-map js job_task in
    let some : k < task_count g.layout.stages = omega (arith, l, count, long) in
    let at = subst (IsPlaced g.plan g.input ((layout_in g).task k)) (get_or-map job_task js k d (job_task d) l) (w.tasks.placed k (job_task d) some) in
    record { columns = at.columns; time = at.time; has = at.has })

-- jobs of new tasks, wired
pub wired_jobs : (g : GivenData) (first js : List Job) → AreNewTasks g (map job_task first) → Wired g.layout.stages first js → AreWired g js
wired_jobs g first js new w = record {
  tasks = subst (AreNewTasks g) (sym w.tasks) new;
  fresh = w.fresh;
  joined = w.joined;
}
